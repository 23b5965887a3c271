-- Digits in base 16, from the last one on. Assumes nothing.
use Rattle.std.proofs.Common.{◌≡◌, ℕ, zero, suc, ◌+◌, ◌-◌, ◌/◌, ◌%◌, ◌^◌, ◌<◌, ◌≤◌, Bool, true, false, cond, ltb, List, [], ◌∷◌, ◌++◌, length, drop, set, refl, ap, ◌∙◌, append_assoc, not-suc-le-zero, pow-suc, arith, length-set, ltb-false, le-ltb, lt-ltb}
use Rattle.std.proofs.lemmas.Nat.{div_below}
use Rattle.std.proofs.lemmas.List.{drop-set}
use Rattle.visitor.specs.Texts.{hex_digit, hex_digits}

-- the first digit ends them
pub digits_last : (left rest : ℕ) (ds : List ℕ) → 0 < left → rest < 16 → hex_digits left rest ++ ds ≡ hex_digit (rest % 16) ∷ ds
digits_last zero rest ds h small = absurd (not-suc-le-zero h)
digits_last (suc k) rest ds h small =
    let same : rest ≡ rest % 16 = omega arith in
    ap (λ t. cond t (hex_digit rest ∷ []) (hex_digits k (rest / 16) ++ hex_digit (rest % 16) ∷ []) ++ ds) (lt-ltb rest 16 small) ∙ ap (λ n. hex_digit n ∷ ds) same

-- another digit stands before those that are there
pub digits_more : (left rest : ℕ) (ds : List ℕ) → 0 < left → 16 ≤ rest → hex_digits left rest ++ ds ≡ hex_digits (left - 1) (rest / 16) ++ hex_digit (rest % 16) ∷ ds
digits_more zero rest ds h large = absurd (not-suc-le-zero h)
digits_more (suc k) rest ds h large =
    let less : k ≡ suc k - 1 = omega arith in
    ap (λ t. cond t (hex_digit rest ∷ []) (hex_digits k (rest / 16) ++ hex_digit (rest % 16) ∷ []) ++ ds) (le-ltb rest 16 large)
    ∙ append_assoc (hex_digits k (rest / 16)) (hex_digit (rest % 16) ∷ []) ds
    ∙ ap (λ j. hex_digits j (rest / 16) ++ hex_digit (rest % 16) ∷ ds) less

-- what stands behind a place once it is written
pub placed : (xs : List ℕ) (i j y : ℕ) → i + 1 ≡ j → i < length xs → drop i (set xs i y) ≡ y ∷ drop j xs
placed xs i j y e h = drop-set xs i y h ∙ ap (λ k. y ∷ drop k xs) e

pub placed_two : (xs : List ℕ) (i k j y z : ℕ) → i + 1 ≡ k → k + 1 ≡ j → k < length xs → drop i (set (set xs k z) i y) ≡ y ∷ z ∷ drop j xs
placed_two xs i k j y z e f h = placed (set xs k z) i k y e (omega (arith, length-set xs k z)) ∙ ap (λ ds. y ∷ ds) (placed xs k j z f h)

some_left : (k n : ℕ) → 16 ≤ n → n < 16 ^ suc k → 0 < k
some_left zero n large fits = absurd (omega arith)
some_left (suc k) n large fits = omega arith

-- the digits of a number are the same for every width that it fits
pub same_digits : (j k n : ℕ) → 0 < j → 0 < k → n < 16 ^ j → n < 16 ^ k → hex_digits j n ≡ hex_digits k n
same_digits zero k n some more fits fits' = absurd (not-suc-le-zero some)
same_digits (suc j) zero n some more fits fits' = absurd (not-suc-le-zero more)
same_digits (suc j) (suc k) n some more fits fits' =
    by (ltb n 16)
    (λ e.
    let large : 16 ≤ n = ltb-false n 16 e in
    same_digits j k (n / 16) (some_left j n large fits) (some_left k n large fits') (div_below n 16 (16 ^ j) (omega arith) (omega (arith, fits, pow-suc 16 j))) (div_below n 16 (16 ^ k) (omega arith) (omega (arith, fits', pow-suc 16 k))))
  where
    by : (t : Bool) → (t ≡ false → hex_digits j (n / 16) ≡ hex_digits k (n / 16)) → cond t (hex_digit n ∷ []) (hex_digits j (n / 16) ++ hex_digit (n % 16) ∷ []) ≡ cond t (hex_digit n ∷ []) (hex_digits k (n / 16) ++ hex_digit (n % 16) ∷ [])
    by true f = refl
    by false f = ap (λ ds. ds ++ hex_digit (n % 16) ∷ []) (f refl)
