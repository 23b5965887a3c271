-- How many bytes the text of an operand has, from the sizes of its parts. Assumes nothing.
use Rattle.std.proofs.Common.{◌≡◌, ℕ, zero, suc, ◌+◌, ◌*◌, ◌/◌, ◌%◌, ◌^◌, ◌<◌, ◌≤◌, Bool, true, false, cond, not, List, [], ◌∷◌, ◌++◌, length, ℤ, pos, negsuc, nat_abs, codes, sym, refl, ap, ◌∙◌, ap₂, not-suc-le-zero, pow-suc, arith, length-append, le-ltb, lt-ltb, ne_eqb}
use Rattle.std.proofs.Math.Pow.{pow_mono}
use Rattle.std.proofs.lemmas.Nat.{div_below, le-div}
use Rattle.armv7.specs.declared.reg.Reg.{Reg}
use Rattle.armv7.specs.declared.reg.Reg.TheVariants.{R0, R1, R2, R3, R4, R5, R6, R7, R8, R9, R10, R11, R12, R13, R14, R15}
use Rattle.armv7.specs.declared.operand.Operand.TheVariants.{RegDerefPostindexRegShift, RegDerefPreindexRegShift, RegDerefPostindexOffset, RegDerefPreindexOffset, RegDerefPostindexReg, RegDerefPreindexReg, CoprocOption}
use Rattle.armv7.specs.declared.shift.RegShift.{RegShift}
use Rattle.armv7.specs.Shifts.{shift_fields, shift_word}
use Rattle.sink.specs.Items.{Item, text_items, bytes}
use Rattle.sink.proofs.Rows.{length_bytes, bytes_text}
use Rattle.visitor.specs.Operands.{bang, minus, offset_text, operand_items}
use Rattle.visitor.specs.Texts.{flagged, reg_items, hex_digit, hex_digits, prefixed, branch_text, shift_items}

abbrev pub size : List Item → ℕ
size is = length (bytes is)

pub size_text : (p : List ℕ) → size (text_items p) ≡ length p
size_text p = ap length (bytes_text p)

pub reg_bounds : (r : Reg) → (2 ≤ size (reg_items r)) × (size (reg_items r) ≤ 3)
reg_bounds R0 = omega arith
reg_bounds R1 = omega arith
reg_bounds R2 = omega arith
reg_bounds R3 = omega arith
reg_bounds R4 = omega arith
reg_bounds R5 = omega arith
reg_bounds R6 = omega arith
reg_bounds R7 = omega arith
reg_bounds R8 = omega arith
reg_bounds R9 = omega arith
reg_bounds R10 = omega arith
reg_bounds R11 = omega arith
reg_bounds R12 = omega arith
reg_bounds R13 = omega arith
reg_bounds R14 = omega arith
reg_bounds R15 = omega arith

-- a text of one byte under a flag
pub flagged_length : (b : Bool) (x : ℕ) → length (flagged b (x ∷ [])) ≡ cond b 1 0
flagged_length true x = refl
flagged_length false x = refl

power_least : (d : ℕ) → 1 ≤ 16 ^ d
power_least zero = omega arith
power_least (suc d) = omega (arith, power_least d, pow-suc 16 d)

some_left : (k n : ℕ) → 16 ≤ n → n < 16 ^ suc k → 0 < k
some_left zero n large fits = absurd (omega arith)
some_left (suc k) n large fits = omega arith

-- a number of d + 1 digits in base 16
pub hex_length : (d k n : ℕ) → (0 < d → 16 ^ d ≤ n) → n < 16 ^ suc d → 0 < k → n < 16 ^ k → length (hex_digits k n) ≡ suc d
hex_length d zero n low high some fits = absurd (not-suc-le-zero some)
hex_length zero (suc k) n low high some fits =
    ap (λ t. length (cond t (hex_digit n ∷ []) (hex_digits k (n / 16) ++ hex_digit (n % 16) ∷ []))) (lt-ltb n 16 (omega (arith, high)))
hex_length (suc d) (suc k) n low high some fits =
    let least : 16 ^ d * 16 ≤ n = omega (arith, low (omega arith), pow-suc 16 d) in
    let large : 16 ≤ n = omega (arith, least, power_least d) in
    ap (λ t. length (cond t (hex_digit n ∷ []) (hex_digits k (n / 16) ++ hex_digit (n % 16) ∷ []))) (le-ltb n 16 large)
    ∙ length-append (hex_digits k (n / 16)) _
    ∙ ap (λ m. m + 1) (hex_length d k (n / 16) (λ _. le-div (16 ^ d) n 16 (omega arith) least) (div_below n 16 (16 ^ suc d) (omega arith) (omega (arith, high, pow-suc 16 (suc d)))) (some_left k n large fits) (div_below n 16 (16 ^ k) (omega arith) (omega (arith, fits, pow-suc 16 k))))
    ∙ omega arith

power_of_two : (d : ℕ) → 16 ^ d ≡ 2 ^ (d * 4)
power_of_two zero = refl
power_of_two (suc d) =
    let k = d * 4 in
    let four : suc d * 4 ≡ suc (suc (suc (suc k))) = omega arith in
    let step : 16 ^ suc d ≡ 2 ^ suc (suc (suc (suc k))) = omega (arith, power_of_two d, pow-suc 16 d, pow-suc 2 k, pow-suc 2 (suc k), pow-suc 2 (suc (suc k)), pow-suc 2 (suc (suc (suc k)))) in
    step ∙ ap (λ j. 2 ^ j) (sym four)

-- a number's digits in base 16, by the power of 2 below it, or below 1 where it is 0
pub log_length : (e k n m : ℕ) → 2 ^ e ≤ m → m < 2 * 2 ^ e → n ≤ m → (1 < m → m ≤ n) → 0 < k → n < 16 ^ k → length (hex_digits k n) ≡ suc (e / 4)
log_length e k n m least most above same some fits = hex_length (e / 4) k n low high some fits
  where
    low : 0 < e / 4 → 16 ^ (e / 4) ≤ n
    low h =
        let large : 2 ^ 4 ≤ 2 ^ e = pow_mono {i = 4} {j = e} (omega arith) in
        let below : 2 ^ (e / 4 * 4) ≤ 2 ^ e = pow_mono {i = e / 4 * 4} {j = e} (omega arith) in
        let whole : m ≤ n = same (omega arith) in
        omega (arith, power_of_two (e / 4), below, whole)

    high : n < 16 ^ suc (e / 4)
    high =
        let above_all : 2 ^ suc e ≤ 2 ^ (suc (e / 4) * 4) = pow_mono {i = suc e} {j = suc (e / 4) * 4} (omega arith) in
        omega (arith, power_of_two (suc (e / 4)), above_all, pow-suc 2 e)

pub offset_length : (a : Bool) (n : ℕ) → (n ≡ 0 → ⊥) → length (offset_text a n) ≡ 2 + (cond (not a) 1 0 + length (prefixed 4 n))
offset_length a n h =
    ap (λ t. length (cond t [] (codes ", " ++ (minus a ++ prefixed 4 n)))) (ne_eqb n 0 h)
    ∙ ap (λ m. suc (suc m)) (length-append (minus a) (prefixed 4 n) ∙ ap (λ m. m + length (prefixed 4 n)) (flagged_length (not a) 45))
    ∙ omega arith

-- the marks of an address
comma_length : (a : Bool) → length (codes ", " ++ minus a) ≡ 2 + cond (not a) 1 0
comma_length true = refl
comma_length false = refl

past_length : (a : Bool) → length (codes "], " ++ minus a) ≡ 3 + cond (not a) 1 0
past_length true = refl
past_length false = refl

blank_length : (a : Bool) → length (codes "], " ++ (minus a ++ codes " ")) ≡ 4 + cond (not a) 1 0
blank_length true = refl
blank_length false = refl

close_length : (w : Bool) → length (codes "]" ++ bang w) ≡ 1 + cond w 1 0
close_length true = refl
close_length false = refl

both_size : (a b : List Item) {m n : ℕ} → size a ≡ m → size b ≡ n → size (a ++ b) ≡ m + n
both_size a b e f = length_bytes a b ∙ ap₂ ◌+◌ e f

text_size : (p : List ℕ) {n : ℕ} → length p ≡ n → size (text_items p) ≡ n
text_size p e = size_text p ∙ e

-- what follows the base of an address
based : (r : Reg) (is : List Item) {n : ℕ} → size is ≡ n → size (text_items (codes "[") ++ (reg_items r ++ is)) ≡ suc (size (reg_items r) + n)
based r is e = ap suc (both_size (reg_items r) is refl e)

module _ (r : Reg) (a w : Bool) where
  pub postindex_shift_size : (s : RegShift) → size (operand_items (RegDerefPostindexRegShift r s a w)) ≡ suc (size (reg_items r) + (4 + cond (not a) 1 0 + size (shift_items (shift_fields (shift_word s)))))
  postindex_shift_size s = based r _ (both_size (text_items (codes "], " ++ (minus a ++ codes " "))) _ (text_size (codes "], " ++ (minus a ++ codes " ")) (blank_length a)) refl)

  pub preindex_shift_size : (s : RegShift) → size (operand_items (RegDerefPreindexRegShift r s a w)) ≡ suc (size (reg_items r) + (2 + cond (not a) 1 0 + (size (shift_items (shift_fields (shift_word s))) + (1 + cond w 1 0))))
  preindex_shift_size s = based r _ (both_size (text_items (codes ", " ++ minus a)) _ (text_size (codes ", " ++ minus a) (comma_length a)) (both_size (shift_items (shift_fields (shift_word s))) _ refl (text_size (codes "]" ++ bang w) (close_length w))))

  pub postindex_offset_size : (n : ℕ) → size (operand_items (RegDerefPostindexOffset r n a w)) ≡ suc (size (reg_items r) + suc (length (offset_text a n)))
  postindex_offset_size n = based r _ (size_text (codes "]" ++ offset_text a n))

  pub preindex_offset_size : (n : ℕ) → size (operand_items (RegDerefPreindexOffset r n a w)) ≡ suc (size (reg_items r) + (length (offset_text a n) + (1 + cond w 1 0)))
  preindex_offset_size n = based r _ (text_size (offset_text a n ++ (codes "]" ++ bang w)) (length-append (offset_text a n) _ ∙ ap (λ m. length (offset_text a n) + m) (close_length w)))

  pub postindex_reg_size : (o : Reg) → size (operand_items (RegDerefPostindexReg r o a w)) ≡ suc (size (reg_items r) + (3 + cond (not a) 1 0 + (size (reg_items o) + cond w 1 0)))
  postindex_reg_size o = based r _ (both_size (text_items (codes "], " ++ minus a)) _ (text_size (codes "], " ++ minus a) (past_length a)) (both_size (reg_items o) _ refl (text_size (bang w) (flagged_length w 33))))

  pub preindex_reg_size : (o : Reg) → size (operand_items (RegDerefPreindexReg r o a w)) ≡ suc (size (reg_items r) + (2 + cond (not a) 1 0 + (size (reg_items o) + (1 + cond w 1 0))))
  preindex_reg_size o = based r _ (both_size (text_items (codes ", " ++ minus a)) _ (text_size (codes ", " ++ minus a) (comma_length a)) (both_size (reg_items o) _ refl (text_size (codes "]" ++ bang w) (close_length w))))

pub option_size : (n : ℕ) → size (operand_items (CoprocOption n)) ≡ suc (length (prefixed 2 n) + 1)
option_size n = size_text (codes "{" ++ (prefixed 2 n ++ codes "}")) ∙ ap suc (length-append (prefixed 2 n) (codes "}"))

branch_length : (scale : ℕ) (z : ℤ) → length (branch_text scale z) ≡ suc (suc (length (prefixed 8 (scale * nat_abs z))))
branch_length scale (pos n) = refl
branch_length scale (negsuc n) = refl

-- a branch distance z, a of whose steps have n bytes with the prefix
pub branch_size : (scale : ℕ) (z : ℤ) {a n : ℕ} → a ≡ nat_abs z → n ≡ length (prefixed 8 (scale * a)) → 2 + n ≡ size (text_items (branch_text scale z))
branch_size scale z e f =
    ap (λ m. 2 + m) (f ∙ ap (λ m. length (prefixed 8 (scale * m))) e) ∙ omega arith ∙ sym (size_text (branch_text scale z) ∙ branch_length scale z)
