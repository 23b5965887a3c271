-- Parts of a line with the one sheet that the line fits, or with none. Assumes nothing.
use Rattle.std.proofs.Common.{◌≡◌, ℕ, Bool, true, false, not, ◌||◌, eqb, ◌↔◌, List, [], ◌∷◌, ◌++◌, Some, None, codes, Option, sym, refl, ap, ◌∙◌, subst, append_assoc}
use Rattle.std.proofs.lemmas.Bool.{and_parts, eqb-false, false≢true}
use Rattle.std.proofs.lemmas.Option.{none-some}
use Rattle.sink.specs.Items.{Item, bytes}
use Rattle.lines.specs.Lines.{Parts, behind_word, line_of}
use Rattle.blocks.specs.declared.fields.Sheet.{Sheet}
use Rattle.blocks.specs.Grammar.{letters, word, stack_name, transfer, Fits, stack_line, transfer_line}
use Rattle.blocks.proofs.OneSheet.{operands, one_sheet}
use Rattle.blocks.proofs.Opcodes.{differs, apart}
use Rattle.blocks.proofs.Printed.{line_bytes}
use Rattle.blocks.proofs.Split.{same_head, same_rest}

pub record Exactly (p : Parts) (o : Option Sheet) : Type 0 where
  pub fits : (t : Sheet) → Fits (bytes (line_of p)) t ↔ (o ≡ Some t)

some_same : (s t : Sheet) → Some s ≡ Some t → s ≡ t
some_same s t e = cc

pub exactly_one : {p : Parts} {s : Sheet} → Fits (bytes (line_of p)) s → Exactly p (Some s)
exactly_one {p} {s} f = record { fits = λ t. (λ g. ap Some (one_sheet (bytes (line_of p)) s t f g), λ e. subst (Fits (bytes (line_of p))) (some_same s t e) f) }

pub exactly_none : {p : Parts} → ((t : Sheet) → Fits (bytes (line_of p)) t → ⊥) → Exactly p None
exactly_none n = record { fits = λ t. (λ g. absurd (n t g), λ e. absurd (none-some t e)) }

apart_front : (front name x y : List ℕ) → differs front name ≡ true → name ++ x ≡ front ++ y → ⊥
apart_front [] name x y h e = false≢true h
apart_front (c ∷ front) [] x y h e = false≢true h
apart_front (c ∷ front) (b ∷ name) x y h e = by (eqb c b) refl h (λ k. apart_front front name x y k (same_rest e))
  where
    by : (r : Bool) → eqb c b ≡ r → (not r || differs front name) ≡ true → (differs front name ≡ true → ⊥) → ⊥
    by true q k deeper = deeper k
    by false q k deeper = eqb-false c b q (sym (same_head e))

record Apart (name : List ℕ) : Type 0 where
  pop : differs (codes "pop") name ≡ true
  push : differs (codes "pus") name ≡ true
  load : differs (codes "ldm") name ≡ true
  store : differs (codes "stm") name ≡ true

all_apart : (name : List ℕ) → apart name ≡ true → Apart name
all_apart name h =
    let a = and_parts (differs (codes "pop") name) _ h in
    let b = and_parts (differs (codes "pus") name) _ a.1 in
    let c = and_parts (differs (codes "ldm") name) (differs (codes "stm") name) b.1 in
    record { pop = a.0; push = b.0; load = c.0; store = c.1 }

-- a line that begins with a name apart from those of the grammar fits no sheet
never_fits : (name x : List ℕ) (t : Sheet) → apart name ≡ true → Fits (name ++ x) t → ⊥
never_fits name x t h (stack_line f) = by t.load f.written
  where
    by : (load : Bool) → name ++ x ≡ letters (word (stack_name load) t) ++ (codes " " ++ f.list) → ⊥
    by true e = apart_front (codes "pop") name x _ (all_apart name h).pop e
    by false e = apart_front (codes "pus") name x _ (all_apart name h).push e
never_fits name x t h (transfer_line f) = by t.load f.written
  where
    by : (load : Bool) → name ++ x ≡ letters (word (transfer load t.add t.pre) t) ++ (codes " " ++ operands t f.list) → ⊥
    by true e = apart_front (codes "ldm") name x _ (all_apart name h).load e
    by false e = apart_front (codes "stm") name x _ (all_apart name h).store e

pub apart_none : (name x : List ℕ) (rows : List (List Item)) → apart name ≡ true → Exactly (record { word = name ++ x; rows = rows }) None
apart_none name x rows h =
    exactly_none (λ t f. never_fits name (x ++ bytes (behind_word rows)) t h (subst (λ b. Fits b t) (line_bytes (name ++ x) rows ∙ append_assoc name x (bytes (behind_word rows))) f))
