-- A parser that takes off just what is written. Assumes nothing.
use Rattle.std.proofs.Common.{◌≡◌, ℕ, ◌<◌, Bool, true, false, cond, List, [], ◌∷◌, ◌++◌, map, length, Some, None, Ok, Err, Option, Result, sym, refl, ap, ◌∙◌, append_assoc, subst, arith}
use Rattle.std.proofs.lemmas.Slice.Eq.{bytes_eq-Decides}
use Rattle.std.proofs.lemmas.Bool.{cond-true}
use Rattle.std.specs.Str.{bytes_eq}
use Rattle.misreading.specs.declared.given.Given.{Given}
use Rattle.misreading.specs.declared.given.Given.TheVariants.{OpenParen, CloseParen, Comma}
use Rattle.misreading.specs.declared.misread.Expected.{Expected}
use Rattle.misreading.specs.declared.misread.Expected.TheVariants.{Given as Token}
use Rattle.misreading.specs.Givens.{text_of}
use Rattle.notation.specs.Parsing.{Tokens, Stop, Parser, then, taken, Table, row, chosen, given, givens, after, before, both, pair, bracketed, via}
use Rattle.notation.specs.Notation.{Argument, Variant, argument, in_parentheses, variant, Held, AllHeld}
use Rattle.notation.specs.Tokens.{first, others}

-- W writes a value, and the parser takes off no more and no less; the values that are read are just those that can be
pub record Faithful {X : Type 0} (Can : X → Type 0) (W : X → Tokens) (p : Parser X) : Type 0 where
  pub sound : (ts : Tokens) (x : X) (rest : Tokens) → p ts ≡ Ok (x, rest) → Can x × (ts ≡ W x ++ rest)
  pub complete : (x : X) → Can x → (rest : Tokens) → p (W x ++ rest) ≡ Ok (x, rest)

pub then_ok : {X Y : Type 0} (o : Result X Stop) (f : X → Result Y Stop) (y : Y) → then o f ≡ Ok y → (x : X) × ((o ≡ Ok x) × (f x ≡ Ok y))
then_ok (Err s) f y e = absurd (let z : ◌≡◌ {A = ℕ} 0 1 = cc in omega arith)
then_ok (Ok x) f y e = (x, (refl, e))

pub ok_is : {X E : Type 0} (x y : X) → ◌≡◌ {A = Result X E} (Ok x) (Ok y) → x ≡ y
ok_is x y e = cc

pub some_is : {X : Type 0} (x y : X) → Some x ≡ Some y → x ≡ y
some_is x y e = cc

pub ok_pair : {X : Type 0} (a c : X) (b d : Tokens) → ◌≡◌ {A = Result (X × Tokens) Stop} (Ok (a, b)) (Ok (c, d)) → (a ≡ c) × (b ≡ d)
ok_pair {X} a c b d e = let same = ok_is {X = X × Tokens} {E = Stop} (a, b) (c, d) e in (ap (λ x. x.0) same, ap (λ x. x.1) same)

pub taken_ok : {X : Type 0} (e : Expected) (o : Option X) (ts : Tokens) (x : X) (rest : Tokens) → taken e o ts ≡ Ok (x, rest) → (o ≡ Some x) × (others ts ≡ rest)
taken_ok e None ts x rest h = absurd (let z : ◌≡◌ {A = ℕ} 0 1 = cc in omega arith)
taken_ok e (Some y) ts x rest h = let is = ok_pair y x (others ts) rest h in (ap (λ v. Some v) is.0, is.1)

pub same_self : (t : List ℕ) → bytes_eq t t ≡ true
same_self t = (bytes_eq-Decides t t).1 refl

pub first_is : (t : List ℕ) (ts : Tokens) → 0 < length t → first ts ≡ t → ts ≡ t ∷ others ts
first_is t [] h e = let len = ap length e in absurd (omega arith)
first_is t (u ∷ us) h e = ap (λ v. v ∷ us) e

there : (t : Bool) (u : Unit {0}) → cond t (Some (tt {0})) None ≡ Some u → t ≡ true
there true u e = refl
there false u e = absurd (let z : ◌≡◌ {A = ℕ} 0 1 = cc in omega arith)

-- a given token stands there
pub given_first : (g : Given) (ts : Tokens) (u : Unit {0}) (rest : Tokens) → given g ts ≡ Ok (u, rest) → (first ts ≡ text_of g) × (others ts ≡ rest)
given_first g ts u rest e =
    let is = taken_ok (Token g) (cond (bytes_eq (first ts) (text_of g)) (Some tt) None) ts u rest e in
    ((bytes_eq-Decides _ _).0 (there _ u is.0), is.1)

given_sound : (g : Given) (ts : Tokens) (u : Unit {0}) (rest : Tokens) → 0 < length (text_of g) → given g ts ≡ Ok (u, rest) → ts ≡ text_of g ∷ rest
given_sound g ts u rest h e =
    let is = given_first g ts u rest e in
    first_is (text_of g) ts h is.0 ∙ ap (λ l. text_of g ∷ l) is.1

given_complete : (g : Given) (rest : Tokens) → given g (text_of g ∷ rest) ≡ Ok (tt, rest)
given_complete g rest = ap (λ o. taken (Token g) o (text_of g ∷ rest)) (cond-true _ _ _ (same_self (text_of g)))

-- tokens that are all there
abbrev pub Solid : List Given → Type 0
Solid [] = Unit {0}
Solid (g ∷ gs) = (0 < length (text_of g)) × Solid gs

abbrev pub texts : List Given → Tokens
texts [] = []
texts (g ∷ gs) = text_of g ∷ texts gs

givens_sound : (gs : List Given) (ts : Tokens) (u : Unit {0}) (rest : Tokens) → Solid gs → givens gs ts ≡ Ok (u, rest) → ts ≡ texts gs ++ rest
givens_sound [] ts u rest h e = (ok_pair tt u ts rest e).1
givens_sound (g ∷ gs) ts u rest h e =
    let one = then_ok (given g ts) (λ x. givens gs x.1) (u, rest) e in
    given_sound g ts one.0.0 one.0.1 h.0 one.1.0 ∙ ap (λ l. text_of g ∷ l) (givens_sound gs one.0.1 u rest h.1 one.1.1)

givens_complete : (gs : List Given) (rest : Tokens) → givens gs (texts gs ++ rest) ≡ Ok (tt, rest)
givens_complete [] rest = refl
givens_complete (g ∷ gs) rest = ap (λ o. then o (λ x. givens gs x.1)) (given_complete g (texts gs ++ rest)) ∙ givens_complete gs rest

-- given tokens, and then a part
pub after_faithful : {X : Type 0} {Can : X → Type 0} {W : X → Tokens} {p : Parser X} (gs : List Given) → Solid gs → Faithful Can W p → Faithful Can (λ x. texts gs ++ W x) (after gs p)
after_faithful {X} {Can} {W} {p} gs h f = record {
  sound = λ ts x rest e.
      let one = then_ok (givens gs ts) (λ o. p o.1) (x, rest) e in
      let part = f.sound one.0.1 x rest one.1.1 in
      (part.0, givens_sound gs ts one.0.0 one.0.1 h one.1.0 ∙ ap (λ l. texts gs ++ l) part.1 ∙ sym (append_assoc (texts gs) (W x) rest));
  complete = λ x can rest.
      ap (after gs p) (append_assoc (texts gs) (W x) rest) ∙ ap (λ o. then o (λ o. p o.1)) (givens_complete gs (W x ++ rest)) ∙ f.complete x can rest;
}

-- a part before given tokens
pub before_faithful : {X : Type 0} {Can : X → Type 0} {W : X → Tokens} {p : Parser X} (gs : List Given) → Solid gs → Faithful Can W p → Faithful Can (λ x. W x ++ texts gs) (before p gs)
before_faithful {X} {Can} {W} {p} gs k f = record {
  sound = λ ts x rest e.
      let one = then_ok (p ts) (λ a. then (givens gs a.1) (λ c. Ok (a.0, c.1))) (x, rest) e in
      let two = then_ok (givens gs one.0.1) (λ c. Ok (one.0.0, c.1)) (x, rest) one.1.1 in
      let last = ok_pair one.0.0 x two.0.1 rest two.1.1 in
      let part = f.sound ts one.0.0 one.0.1 one.1.0 in (
        subst Can last.0 part.0,
        part.1
            ∙ ap (λ l. W one.0.0 ++ l) (givens_sound gs one.0.1 two.0.0 two.0.1 k two.1.0)
            ∙ ap (λ y. W y ++ (texts gs ++ two.0.1)) last.0
            ∙ ap (λ l. W x ++ (texts gs ++ l)) last.1
            ∙ sym (append_assoc (W x) (texts gs) rest),
      );
  complete = λ x can rest.
      ap (before p gs) (append_assoc (W x) (texts gs) rest)
      ∙ ap (λ o. then o (λ a. then (givens gs a.1) (λ c. Ok (a.0, c.1)))) (f.complete x can (texts gs ++ rest))
      ∙ ap (λ o. then o (λ c. Ok (x, c.1))) (givens_complete gs rest);
}

-- one part and then another
pub both_faithful : {X Y : Type 0} {CanX : X → Type 0} {CanY : Y → Type 0} {V : X → Tokens} {W : Y → Tokens} {p : Parser X} {q : Parser Y} → Faithful CanX V p → Faithful CanY W q → Faithful (λ x. CanX x.0 × CanY x.1) (λ x. V x.0 ++ W x.1) (both p q)
both_faithful {X} {Y} {CanX} {CanY} {V} {W} {p} {q} f g = record {
  sound = λ ts x rest e.
      let one = then_ok (p ts) (λ a. then (q a.1) (λ b. Ok ((a.0, b.0), b.1))) (x, rest) e in
      let two = then_ok (q one.0.1) (λ b. Ok ((one.0.0, b.0), b.1)) (x, rest) one.1.1 in
      let last = ok_pair (one.0.0, two.0.0) x two.0.1 rest two.1.1 in
      let left = f.sound ts one.0.0 one.0.1 one.1.0 in
      let right = g.sound one.0.1 two.0.0 two.0.1 two.1.0 in (
        subst (λ y. CanX y.0 × CanY y.1) last.0 (left.0, right.0),
        left.1
            ∙ ap (λ l. V one.0.0 ++ l) right.1
            ∙ sym (append_assoc (V one.0.0) (W two.0.0) two.0.1)
            ∙ ap (λ y. (V y.0 ++ W y.1) ++ two.0.1) last.0
            ∙ ap (λ l. (V x.0 ++ W x.1) ++ l) last.1,
      );
  complete = λ x can rest.
      ap (both p q) (append_assoc (V x.0) (W x.1) rest)
      ∙ ap (λ o. then o (λ a. then (q a.1) (λ b. Ok ((a.0, b.0), b.1)))) (f.complete x.0 can.0 (W x.1 ++ rest))
      ∙ ap (λ o. then o (λ b. Ok ((x.0, b.0), b.1))) (g.complete x.1 can.1 rest);
}

-- two parts with a comma between them
pub pair_faithful : {X Y : Type 0} {CanX : X → Type 0} {CanY : Y → Type 0} {V : X → Tokens} {W : Y → Tokens} {p : Parser X} {q : Parser Y} → Faithful CanX V p → Faithful CanY W q → Faithful (λ x. CanX x.0 × CanY x.1) (λ x. V x.0 ++ text_of Comma ∷ W x.1) (pair p q)
pair_faithful f g = both_faithful f (after_faithful (Comma ∷ []) (omega arith, tt) g)

-- a part in parentheses
pub bracketed_faithful : {X : Type 0} {Can : X → Type 0} {W : X → Tokens} {p : Parser X} → Faithful Can W p → Faithful Can (λ x. text_of OpenParen ∷ (W x ++ text_of CloseParen ∷ [])) (bracketed p)
bracketed_faithful f = after_faithful (OpenParen ∷ []) (omega arith, tt) (before_faithful (CloseParen ∷ []) (omega arith, tt) f)

-- what is made of a part
pub via_sound : {X Y : Type 0} (f : X → Y) (p : Parser X) (ts : Tokens) (y : Y) (rest : Tokens) → via f p ts ≡ Ok (y, rest) → (x : X) × ((p ts ≡ Ok (x, rest)) × (f x ≡ y))
via_sound f p ts y rest e =
    let one = then_ok (p ts) (λ x. Ok (f x.0, x.1)) (y, rest) e in
    let last = ok_pair (f one.0.0) y one.0.1 rest one.1.1 in
    (one.0.0, (one.1.0 ∙ ap (λ l. Ok (one.0.0, l)) last.1, last.0))

-- the same, where what can be is told another way
pub retold : {X : Type 0} {Can Held : X → Type 0} {W : X → Tokens} {p : Parser X} → ((x : X) → Can x → Held x) → ((x : X) → Held x → Can x) → Faithful Can W p → Faithful Held W p
retold to from f = record {
  sound = λ ts x rest e. let part = f.sound ts x rest e in (to x part.0, part.1);
  complete = λ x held rest. f.complete x (from x held) rest;
}

-- the same, written another way
pub rewritten : {X : Type 0} {Can : X → Type 0} {V : X → Tokens} {W : X → Tokens} {p : Parser X} → ((x : X) → V x ≡ W x) → Faithful Can V p → Faithful Can W p
rewritten {X} {Can} {V} {W} {p} same f = record {
  sound = λ ts x rest e. let part = f.sound ts x rest e in (part.0, part.1 ∙ ap (λ l. l ++ rest) (same x));
  complete = λ x can rest. ap (λ l. p (l ++ rest)) (sym (same x)) ∙ f.complete x can rest;
}

-- arguments in parentheses
pub one_argument : {X : Type 0} {p : Parser X} (a : X → Argument) → Faithful (λ x. Held (a x)) (λ x. argument (a x)) p → Faithful (λ x. AllHeld (a x ∷ [])) (λ x. in_parentheses (a x ∷ [])) (bracketed p)
one_argument a f = retold (λ x h. (h, tt)) (λ x h. h.0) (bracketed_faithful f)

pub two_arguments : {X Y : Type 0} {p : Parser X} {q : Parser Y} (a : X → Argument) (b : Y → Argument) → Faithful (λ x. Held (a x)) (λ x. argument (a x)) p → Faithful (λ y. Held (b y)) (λ y. argument (b y)) q → Faithful (λ x. AllHeld (a x.0 ∷ b x.1 ∷ [])) (λ x. in_parentheses (a x.0 ∷ b x.1 ∷ [])) (bracketed (pair p q))
two_arguments a b f g = retold (λ x h. (h.0, (h.1, tt))) (λ x h. (h.0, h.1.0)) (rewritten (λ x. simp append_assoc) (bracketed_faithful (pair_faithful f g)))

pub three_arguments : {X Y Z : Type 0} {p : Parser X} {q : Parser Y} {r : Parser Z} (a : X → Argument) (b : Y → Argument) (c : Z → Argument) → Faithful (λ x. Held (a x)) (λ x. argument (a x)) p → Faithful (λ y. Held (b y)) (λ y. argument (b y)) q → Faithful (λ z. Held (c z)) (λ z. argument (c z)) r → Faithful (λ x. AllHeld (a x.0.0 ∷ b x.0.1 ∷ c x.1 ∷ [])) (λ x. in_parentheses (a x.0.0 ∷ b x.0.1 ∷ c x.1 ∷ [])) (bracketed (pair (pair p q) r))
three_arguments a b c f g h = retold (λ x i. (i.0.0, (i.0.1, (i.1, tt)))) (λ x i. ((i.0, i.1.0), i.1.1.0)) (rewritten (λ x. simp append_assoc) (bracketed_faithful (pair_faithful (pair_faithful f g) h)))

pub four_arguments : {X Y Z T : Type 0} {p : Parser X} {q : Parser Y} {r : Parser Z} {s : Parser T} (a : X → Argument) (b : Y → Argument) (c : Z → Argument) (d : T → Argument) → Faithful (λ x. Held (a x)) (λ x. argument (a x)) p → Faithful (λ y. Held (b y)) (λ y. argument (b y)) q → Faithful (λ z. Held (c z)) (λ z. argument (c z)) r → Faithful (λ t. Held (d t)) (λ t. argument (d t)) s → Faithful (λ x. AllHeld (a x.0.0 ∷ b x.0.1 ∷ c x.1.0 ∷ d x.1.1 ∷ [])) (λ x. in_parentheses (a x.0.0 ∷ b x.0.1 ∷ c x.1.0 ∷ d x.1.1 ∷ [])) (bracketed (pair (pair p q) (pair r s)))
four_arguments a b c d f g h i = retold (λ x j. (j.0.0, (j.0.1, (j.1.0, (j.1.1, tt))))) (λ x j. ((j.0, j.1.0), (j.1.1.0, j.1.1.1.0))) (rewritten (λ x. simp append_assoc) (bracketed_faithful (pair_faithful (pair_faithful f g) (pair_faithful h i))))

-- what f makes of each row's value is what g makes of its word
pub row_is : {X Y : Type 0} (f : X → Y) (g : List ℕ → Y) (rs : Table X) → map (λ r. f r.1) rs ≡ map (λ r. g r.0) rs → (w : List ℕ) (x : X) → row rs w ≡ Some x → g w ≡ f x
row_is {X} {Y} f g [] same w x e = absurd (let z : ◌≡◌ {A = ℕ} 0 1 = cc in omega arith)
row_is {X} {Y} f g (r ∷ rs) same w x e =
    let head : f r.1 ≡ g r.0 = cc in
    let tail : map (λ r. f r.1) rs ≡ map (λ r. g r.0) rs = cc in
    one_row f g r (row rs w) w x head (row_is f g rs tail w x) (bytes_eq w r.0) refl e
  where
    one_row : {X Y : Type 0} (f : X → Y) (g : List ℕ → Y) (r : List ℕ × X) (o : Option X) (w : List ℕ) (x : X) → f r.1 ≡ g r.0 → (o ≡ Some x → g w ≡ f x) → (t : Bool) → bytes_eq w r.0 ≡ t → cond t (Some r.1) o ≡ Some x → g w ≡ f x
    one_row f g r o w x head other true s e = ap g ((bytes_eq-Decides _ _).0 s) ∙ sym head ∙ ap f (some_is r.1 x e)
    one_row f g r o w x head other false s e = other e

-- a word of a table
pub chosen_faithful : {X : Type 0} (e : Expected) (word : X → List ℕ) (rs : Table X) → map (λ r. word r.1) rs ≡ map (λ r. r.0) rs → ((x : X) → 0 < length (word x)) → ((x : X) → row rs (word x) ≡ Some x) → Faithful (λ _. Unit {0}) (λ x. word x ∷ []) (chosen e rs)
chosen_faithful {X} e word rs same solid finds = record {
  sound = λ ts x rest h.
      let is = taken_ok e (row rs (first ts)) ts x rest h in
      (tt, first_is (word x) ts (solid x) (row_is word (λ w. w) rs same (first ts) x is.0) ∙ ap (λ l. word x ∷ l) is.1);
  complete = λ x can rest. ap (λ o. taken e o (word x ∷ rest)) (finds x);
}

-- a case whose arguments are read as they are written
pub variant_sound : {X O : Type 0} {W : X → Tokens} {p : Parser X} (Can : O → Type 0) (write : O → Tokens) (make : X → O) (name : List ℕ) → Faithful (λ x. Can (make x)) W p → ((x : X) → name ∷ W x ≡ write (make x)) → (ts : Tokens) (o : O) (rest : Tokens) → via make p ts ≡ Ok (o, rest) → Can o × (name ∷ ts ≡ write o ++ rest)
variant_sound {X} {O} {W} {p} Can write make name arguments is ts o rest e =
    let one = via_sound make p ts o rest e in
    let part = arguments.sound ts one.0 rest one.1.0 in
    (subst Can one.1.1 part.0, ap (λ l. name ∷ l) part.1 ∙ ap (λ l. l ++ rest) (is one.0) ∙ ap (λ y. write y ++ rest) one.1.1)

-- a case that is written alone has no arguments
pub alone_held : (w : List ℕ) (v : Variant) → w ∷ [] ≡ variant v → AllHeld v.arguments
alone_held w v e = none_held v.arguments (ap others e)
  where
    none_held : (xs : List Argument) → [] ≡ in_parentheses xs → AllHeld xs
    none_held [] e = tt
    none_held (a ∷ xs) e = let len = ap length e in absurd (omega arith)
