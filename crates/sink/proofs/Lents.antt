-- Memory that is written behind what is in use. Assumes nothing.
use Rattle.std.proofs.Common.{◌≡◌, ℕ, zero, suc, ◌+◌, ◌-◌, ◌^◌, ◌<◌, ◌≤◌, min, Bool, true, false, cond, ltb, List, [], ◌∷◌, ◌++◌, length, take, drop, sym, refl, ap, ◌∙◌, ap₂, append-nil, arith, length-append, length-drop, length-take, length-take-le, take_all, drop-drop, ltb-false, ltb-true}
use lib.Seq.{drop-append-add, drop-append_seam}
use borrow.Rule.Slice.PartMut.{put_mid}
use Rattle.sink.specs.Lent.{lent, Filled}

-- memory in which ys replaced what stood from place n on
abbrev spliced : {A : Type 0} → ℕ → List A → List A → List A
spliced n xs ys = take n xs ++ (ys ++ drop (n + length ys) xs)

-- fewer than 2 to the 64 elements are all of them lent
pub all_lent : {A : Type 0} (xs : List A) → length xs < 2 ^ 64 → lent xs ≡ xs
all_lent xs h = take_all (2 ^ 64 - 1) xs (omega arith)

pub take_min : {A : Type 0} (n : ℕ) (xs : List A) → take (min n (length xs)) xs ≡ take n xs
take_min zero xs = let none : min zero (length xs) ≡ zero = omega arith in ap (λ k. take k xs) none
take_min (suc n) [] = let none : min (suc n) 0 ≡ zero = omega arith in ap (λ k. take k []) none
take_min (suc n) (x ∷ xs) = ap (λ k. take k (x ∷ xs)) more ∙ ap (λ r. x ∷ r) (take_min n xs)
  where
    more : min (suc n) (length (x ∷ xs)) ≡ suc (min n (length xs))
    more = omega arith

module _ {A : Type 0} (xs ys : List A) (n : ℕ) (fits : n + length ys ≤ length xs) where
  front : length (take n xs) ≡ n
  front = length-take-le n xs (omega arith)

  past : drop (n + length ys) (spliced n xs ys) ≡ drop (n + length ys) xs
  past = ap (λ k. drop (k + length ys) (spliced n xs ys)) (sym front) ∙ drop-append-add (take n xs) _ (length ys) ∙ drop-append_seam ys _

  size : length (spliced n xs ys) ≡ length xs
  size = omega (arith, front, length-append (take n xs) (ys ++ drop (n + length ys) xs), length-append ys (drop (n + length ys) xs), length-drop (n + length ys) xs)

  -- memory in which ys came behind the first n elements
  pub spliced_filled : Filled xs n (spliced n xs ys) (n + length ys)
  spliced_filled = record { grows = omega arith; size = size; past = past }

-- a write to the part of length k from place n on
pub part_spliced : {A : Type 0} (xs ys zs : List A) (n k : ℕ) → ys ≡ zs → k ≡ length zs → put_mid n k xs ys ≡ spliced n xs zs
part_spliced xs ys zs n k e s = ap₂ (λ us vs. take n xs ++ (us ++ vs)) e (drop-drop k n xs ∙ ap (λ i. drop (n + i) xs) s)

-- what is left behind the first n elements
pub room_left : {A : Type 0} (xs : List A) (n : ℕ) → length xs < 2 ^ 64 → n ≤ length xs → length xs - n ≡ length (lent xs) - length (take n (lent xs))
room_left xs n bits h = omega (arith, length-take-le n xs h) ∙ sym (ap (λ l. length l - length (take n l)) (all_lent xs bits))

-- What came of a write of p behind the first n of the elements xs: they are ys, of which the first k are in use.
module _ {A : Type 0} (xs ys p : List A) (n k : ℕ) (bits : length xs < 2 ^ 64) (within : n ≤ length xs) (size : length ys ≡ length xs) where
  pub write_limit : length (lent ys) ≡ length (lent xs)
  write_limit = omega (arith, length-take (2 ^ 64 - 1) ys, length-take (2 ^ 64 - 1) xs, size)

  pub write_text : take k ys ≡ take n xs ++ take (length xs - n) p → take k (lent ys) ≡ take n (lent xs) ++ take (length (lent xs) - length (take n (lent xs))) p
  write_text e = ap (take k) (all_lent ys (omega (arith, size))) ∙ e ∙ ap₂ (λ (l : List A) m. take n l ++ take m p) (sym (all_lent xs bits)) (room_left xs n bits within)

-- where there is room for it, one element more
pub one_more : {A : Type 0} (xs : List A) (x : A) (limit : ℕ) → length xs ≤ limit → xs ++ take (limit - length xs) (x ∷ []) ≡ cond (ltb (length xs) limit) (xs ++ x ∷ []) xs
one_more xs x limit h = by (ltb (length xs) limit) refl
  where
    by : (t : Bool) → ltb (length xs) limit ≡ t → xs ++ take (limit - length xs) (x ∷ []) ≡ cond t (xs ++ x ∷ []) xs
    by true e = let some : limit - length xs ≡ suc (limit - suc (length xs)) = omega (arith, ltb-true _ _ e) in ap (λ k. xs ++ take k (x ∷ [])) some ∙ ap (λ r. xs ++ x ∷ r) (take_all (limit - suc (length xs)) [] (omega arith))
    by false e = let none : limit - length xs ≡ zero = omega (arith, ltb-false _ _ e) in ap (λ k. xs ++ take k (x ∷ [])) none ∙ append-nil xs

-- the length of the first n elements
pub front_length : {A : Type 0} (xs : List A) (n : ℕ) → length xs < 2 ^ 64 → n ≤ length xs → n ≡ length (take n (lent xs))
front_length xs n bits h = sym (length-take-le n xs h) ∙ sym (ap (λ l. length (take n l)) (all_lent xs bits))

pub lent_length : {A : Type 0} (xs : List A) → length xs < 2 ^ 64 → length (lent xs) ≡ length xs
lent_length xs bits = ap length (all_lent xs bits)

-- the first n elements
pub front_taken : {A : Type 0} (xs : List A) (n : ℕ) → length xs < 2 ^ 64 → take n xs ≡ take n (lent xs)
front_taken xs n bits = sym (ap (take n) (all_lent xs bits))
