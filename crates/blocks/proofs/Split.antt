-- Two texts that are equal, each cut where a run of bytes ends, are equal in both parts. Assumes nothing.
use Rattle.std.proofs.Common.{◌≡◌, ℕ, Bool, true, ◌&&◌, leb, List, [], ◌∷◌, ◌++◌, length, get_or, drop, sym, refl, ap, subst, ap₂, arith}
use Rattle.std.specs.List.{AllByRecursion, list_all}
use Rattle.std.proofs.lemmas.List.Elements.{recursion_from_All}
use Rattle.std.proofs.lemmas.List.Sums.{AllPass-from_list_all}

pub same_head : {x y : ℕ} {a b : List ℕ} → x ∷ a ≡ y ∷ b → x ≡ y
same_head e = ap (λ t. get_or t 0 0) e

pub same_rest : {x y : ℕ} {a b : List ℕ} → x ∷ a ≡ y ∷ b → a ≡ b
same_rest e = ap (drop 1) e

pub never_empty : {x : ℕ} {a : List ℕ} → [] ≡ x ∷ a → ⊥
never_empty e = let l = ap length e in omega arith

-- a text that does not go on with a byte of the run
abbrev pub Stops : (ℕ → Type 0) → List ℕ → Type 0
Stops P [] = Unit {0}
Stops P (x ∷ t) = P x → ⊥

pub split : (P : ℕ → Type 0) (a b x y : List ℕ) → AllByRecursion P a → AllByRecursion P b → Stops P x → Stops P y → a ++ x ≡ b ++ y → (a ≡ b) × (x ≡ y)
split P [] [] x y f g h k e = (refl, e)
split P [] (c ∷ b) [] y f g h k e = absurd (never_empty e)
split P [] (c ∷ b) (d ∷ x) y f g h k e = absurd (h (subst P (sym (same_head e)) g.0))
split P (c ∷ a) [] x [] f g h k e = absurd (never_empty (sym e))
split P (c ∷ a) [] x (d ∷ y) f g h k e = absurd (k (subst P (same_head e) f.0))
split P (c ∷ a) (d ∷ b) x y f g h k e =
    let r = split P a b x y f.1 g.1 h k (same_rest e) in
    (ap₂ (λ z t. z ∷ t) (same_head e) r.0, r.1)

-- letters, digits and the point, of which words and names are made
abbrev pub plain : ℕ → Bool
plain b = leb 46 b && leb b 122

abbrev pub Plain : ℕ → Type 0
Plain b = plain b ≡ true

pub all_plain : (t : List ℕ) → list_all plain t ≡ true → AllByRecursion Plain t
all_plain t e = recursion_from_All Plain t (AllPass-from_list_all plain t e)
