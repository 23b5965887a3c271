-- A search through a table of words. Assumes nothing.
use Rattle.std.proofs.Common.{◌≡◌, ℕ, Bool, true, false, cond, List, [], ◌∷◌, Some, None, Option, Decides, sym, refl, ap, ◌∙◌, ⊎_elim, Bor}
use Rattle.std.proofs.lemmas.Slice.Eq.{bytes_eq-Decides}
use Rattle.std.proofs.lemmas.Bool.{cases_Bool}
use Rattle.std.specs.List.{find}
use Rattle.std.specs.Option.{option_map}
use Rattle.std.specs.Str.{bytes_eq}
use Rattle.notation.specs.Parsing.{row, rows}

pub same_from_decides : (xs ys : List ℕ) (r : Bool) → Decides r (xs ≡ ys) → r ≡ bytes_eq xs ys
same_from_decides xs ys true d = sym ((bytes_eq-Decides xs ys).1 (d.0 refl))
same_from_decides xs ys false d = ⊎_elim (λ t. d.1 ((bytes_eq-Decides xs ys).0 t) ∙ sym t) sym (cases_Bool (bytes_eq xs ys))

-- a table is searched from its front
row_find : {X : Type 0} (ps : List (Bor (List ℕ) × X)) (w : List ℕ) → row (rows ps) w ≡ option_map (λ p. p.1) (find (λ p. bytes_eq w p.0.now) ps)
row_find [] w = refl
row_find (p ∷ ps) w = by (bytes_eq w p.0.now) (row_find ps w)
  where
    by : (t : Bool) → row (rows ps) w ≡ option_map (λ p. p.1) (find (λ p. bytes_eq w p.0.now) ps) → cond t (Some p.1) (row (rows ps) w) ≡ option_map (λ p. p.1) (cond t (Some p) (find (λ p. bytes_eq w p.0.now) ps))
    by true later = refl
    by false later = later

pub row_found : {X : Type 0} (ps : List (Bor (List ℕ) × X)) (w : List ℕ) (r : Option (Bor (Bor (List ℕ) × X))) → option_map (λ p. p.now) r ≡ find (λ p. bytes_eq w p.0.now) ps → row (rows ps) w ≡ option_map (λ p. p.now.1) r
row_found {X} ps w r e = row_find ps w ∙ ap (option_map (λ p. p.1)) (sym e) ∙ both r
  where
    both : (r : Option (Bor (Bor (List ℕ) × X))) → option_map (λ p. p.1) (option_map (λ p. p.now) r) ≡ option_map (λ p. p.now.1) r
    both None = refl
    both (Some p) = refl
