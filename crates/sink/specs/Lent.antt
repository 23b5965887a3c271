-- Lent memory: what a sink on it holds, and what of it stays. Assumes nothing.
use Rattle.std.specs.Prelude.{◌≡◌, ℕ, ◌+◌, ◌-◌, ◌^◌, ◌<◌, ◌≤◌, min, List, length, take, drop, refl}
use Rattle.std.proofs.Common.{⊎_elim, sym, ap, ◌∙◌, arith, length-take, drop-drop}
use Rattle.std.proofs.lemmas.Bool.{cases_lt}
use Rattle.std.proofs.lemmas.List.{drop_all}

-- lent elements, of which there are always fewer than 2 to the 64
abbrev pub lent : {A : Type 0} → List A → List A
lent xs = take (2 ^ 64 - 1) xs

-- memory whose first n elements are in use comes to have its first k in use: the others stay as they were
pub record Filled {A : Type 0} (xs : List A) (n : ℕ) (ys : List A) (k : ℕ) : Type 0 where
  pub grows : min n (length xs) ≤ k
  pub size : length ys ≡ length xs
  pub past : drop k ys ≡ drop k xs

pub lent_within : {A : Type 0} (n : ℕ) (xs : List A) → length (take n (lent xs)) ≤ length (lent xs)
lent_within n xs = omega (arith, length-take n (lent xs))

pub lent_bits : {A : Type 0} (xs : List A) → length (lent xs) < 2 ^ 64
lent_bits xs = omega (arith, length-take (2 ^ 64 - 1) xs)

pub filled_none : {A : Type 0} (xs : List A) (n : ℕ) → Filled xs n xs n
filled_none xs n = record { grows = omega arith; size = refl; past = refl }

-- past a later end, memory that stayed past an earlier one
pub still_past : {A : Type 0} (xs ys : List A) (k j : ℕ) → k ≤ j → drop k ys ≡ drop k xs → drop j ys ≡ drop j xs
still_past xs ys k j h e =
    let apart : k + (j - k) ≡ j = omega arith in
    ap (λ i. drop i ys) (sym apart) ∙ sym (drop-drop (j - k) k ys) ∙ ap (drop (j - k)) e ∙ drop-drop (j - k) k xs ∙ ap (λ i. drop i xs) apart

pub filled_twice : {A : Type 0} {xs ys zs : List A} {n k j : ℕ} → Filled xs n ys k → Filled ys k zs j → Filled xs n zs j
filled_twice {xs} {ys} {zs} {n} {k} {j} f g = record {
  grows = omega arith;
  size = g.size ∙ f.size;
  past = g.past ∙ ⊎_elim short long (cases_lt j k);
}
  where
    -- nothing lies past the end
    short : j < k → drop j ys ≡ drop j xs
    short h = drop_all j ys (omega arith) ∙ sym (drop_all j xs (omega arith))

    long : k ≤ j → drop j ys ≡ drop j xs
    long h = still_past xs ys k j h f.past
