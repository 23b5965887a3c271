-- No two sheets share a line. Assumes nothing.
use Rattle.std.proofs.Common.{◌≡◌, ℕ, Bool, true, false, not, List, [], ◌∷◌, ◌++◌, codes, sym, refl, ap, ◌∙◌, arith}
use Rattle.std.proofs.lemmas.Bool.{false≢true}
use Rattle.armv7.specs.Registers.{reg_name}
use Rattle.blocks.specs.declared.fields.Sheet.{Sheet}
use Rattle.blocks.specs.Grammar.{optional, Name, pop, push, transfer, Word, letters, word, stack_name, StackLine, TransferLine, stack_line, transfer_line, OneSheet}
use Rattle.blocks.proofs.Lists.{plain_name, same_name, listed_read}
use Rattle.blocks.proofs.Split.{split, same_head, same_rest, Stops, Plain}
use Rattle.blocks.proofs.Words.{plain_words, one_word}

-- lines of two words, each with what stands behind the space
pub same_words : (u v : Word) (x y : List ℕ) → letters u ++ (codes " " ++ x) ≡ letters v ++ (codes " " ++ y) → (u ≡ v) × (x ≡ y)
same_words u v x y e =
    let r = split Plain (letters u) (letters v) (32 ∷ x) (32 ∷ y) (plain_words u) (plain_words v) false≢true false≢true e in
    (one_word u v r.0, same_rest r.1)

abbrev loads : Name → Bool
loads pop = true
loads push = false
loads (transfer load add pre) = load

abbrev adds : Name → Bool
adds pop = true
adds push = false
adds (transfer load add pre) = add

abbrev pres : Name → Bool
pres pop = false
pres push = true
pres (transfer load add pre) = pre

abbrev pub is_transfer : Name → Bool
is_transfer pop = false
is_transfer push = false
is_transfer (transfer load add pre) = true

loads_stack : (b : Bool) → loads (stack_name b) ≡ b
loads_stack true = refl
loads_stack false = refl

pub not_transfer : (b : Bool) → is_transfer (stack_name b) ≡ false
not_transfer true = refl
not_transfer false = refl

-- a mark that may stand, and then a byte that is no mark
same_mark : (a b : Bool) (x y : List ℕ) → optional a (codes "!") ++ (codes ", " ++ x) ≡ optional b (codes "!") ++ (codes ", " ++ y) → (a ≡ b) × (x ≡ y)
same_mark true true x y e = (refl, same_rest (same_rest (same_rest e)))
same_mark true false x y e = let z = same_head e in absurd (omega arith)
same_mark false true x y e = let z = same_head e in absurd (omega arith)
same_mark false false x y e = (refl, same_rest (same_rest e))

same_end : (a b : Bool) → optional a (codes "^") ≡ optional b (codes "^") → a ≡ b
same_end a b e = grind arith

mark_stops : (b : Bool) (x : List ℕ) → Stops Plain (optional b (codes "!") ++ (codes ", " ++ x))
mark_stops true x = false≢true
mark_stops false x = false≢true

both_stack : {b : List ℕ} (s t : Sheet) → StackLine b s → StackLine b t → s ≡ t
both_stack s t f g =
    let r = same_words (word (stack_name s.load) s) (word (stack_name t.load) t) f.list g.list (sym f.written ∙ g.written) in
    let load = sym (loads_stack s.load) ∙ ap (λ v. loads v.name) r.0 ∙ loads_stack t.load in
    let mask = (listed_read [] [] f.listed g.listed (ap (λ l. l ++ []) r.1)).0 in
    λ i. record {
      load = load i;
      add = (f.add ∙ load ∙ sym g.add) i;
      pre = (f.pre ∙ ap not load ∙ sym g.pre) i;
      base = (f.base ∙ sym g.base) i;
      wback = (f.wback ∙ sym g.wback) i;
      mask = mask i;
      condition = (r.0 i).condition;
      s = (r.0 i).s;
      w = (r.0 i).w;
      user = (f.user ∙ sym g.user) i;
    }

-- what stands behind the space of a transfer's line
abbrev pub operands : Sheet → List ℕ → List ℕ
operands t list = reg_name t.base ++ (optional t.wback (codes "!") ++ (codes ", " ++ (list ++ optional t.user (codes "^"))))

both_transfer : {b : List ℕ} (s t : Sheet) → TransferLine b s → TransferLine b t → s ≡ t
both_transfer s t f g =
    let ends : Sheet → List ℕ = λ x. optional x.user (codes "^") in
    let r = same_words (word (transfer s.load s.add s.pre) s) (word (transfer t.load t.add t.pre) t) (operands s f.list) (operands t g.list) (sym f.written ∙ g.written) in
    let b = split Plain (reg_name s.base) (reg_name t.base) _ _ (plain_name s.base) (plain_name t.base) (mark_stops s.wback (f.list ++ ends s)) (mark_stops t.wback (g.list ++ ends t)) r.1 in
    let m = same_mark s.wback t.wback (f.list ++ ends s) (g.list ++ ends t) b.1 in
    let l = listed_read (ends s) (ends t) f.listed g.listed m.1 in
    λ i. record {
      load = loads (r.0 i).name;
      add = adds (r.0 i).name;
      pre = pres (r.0 i).name;
      base = same_name s.base t.base b.0 i;
      wback = m.0 i;
      mask = l.0 i;
      condition = (r.0 i).condition;
      s = (r.0 i).s;
      w = (r.0 i).w;
      user = same_end s.user t.user l.1 i;
    }

never_both : {b : List ℕ} (s t : Sheet) → StackLine b s → TransferLine b t → ⊥
never_both s t f g =
    let r = same_words (word (stack_name s.load) s) (word (transfer t.load t.add t.pre) t) f.list (operands t g.list) (sym f.written ∙ g.written) in
    false≢true (sym (not_transfer s.load) ∙ ap (λ v. is_transfer v.name) r.0)

pub one_sheet : OneSheet
one_sheet b s t (stack_line f) (stack_line g) = both_stack s t f g
one_sheet b s t (stack_line f) (transfer_line g) = absurd (never_both s t f g)
one_sheet b s t (transfer_line f) (stack_line g) = absurd (never_both t s g f)
one_sheet b s t (transfer_line f) (transfer_line g) = both_transfer s t f g
