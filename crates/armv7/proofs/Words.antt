-- The fields of a shift word are those of the number that it is kept in. Assumes nothing.
use Rattle.std.proofs.Common.{◌≡◌, ℕ, ◌+◌, ◌-◌, ◌*◌, ◌/◌, ◌%◌, ◌<◌, Bool, true, false, cond, ◌&&◌, eqb, sym, refl, ap, ◌∙◌, arith, eqb-true}
use lib.Arith.{digits_div}
use borrow.Author.Tests.{both_ways}
use Rattle.armv7.specs.declared.shift.RegShift.{RegShift}
use Rattle.armv7.specs.Shifts.{bit, shift_word, shift_fields}

record SameFields (v w : ℕ) : Type 0 where
  shiftee : v % 16 ≡ w % 16
  way : bit 16 v ≡ bit 16 w
  stype : v / 32 % 4 ≡ w / 32 % 4
  shifter : v / 256 % 16 ≡ w / 256 % 16
  amount : bit 16 w ≡ 0 → v / 128 % 32 ≡ w / 128 % 32

chosen : {X : Type 0} (v w : ℕ) {a b c d : X} → v ≡ w → (w ≡ 0 → a ≡ c) → b ≡ d → cond (eqb v 0) a b ≡ cond (eqb w 0) c d
chosen {X} v w {a} {b} {c} {d} e f g = ap (λ n. cond (eqb n 0) a b) e ∙ by (eqb w 0) (eqb-true w 0)
  where
    by : (t : Bool) → (t ≡ true → w ≡ 0) → cond t a b ≡ cond t c d
    by true z = f (z refl)
    by false z = g

fields_equal : (v w : ℕ) → SameFields v w → shift_fields v ≡ shift_fields w
fields_equal v w s =
    let regs = s.shiftee in
    let kinds = s.stype in
    let others = s.shifter in
    chosen _ _ s.way (λ z. let amounts = s.amount z in cc) (cc)

low_fields : (d : ℕ) → SameFields (d % 4096) d
low_fields d = record {
  shiftee = omega arith;
  way = omega arith;
  stype = omega arith;
  shifter = omega arith;
  amount = λ _. omega arith;
}

without_bit_7 : (l : ℕ) → bit 128 l ≡ 1 → (l - 128) / 256 ≡ l / 256
without_bit_7 l k =
    let j = l / 128 / 2 in
    let r = l % 128 in
    let cut : l - 128 ≡ j * 256 + r = omega arith in
    let whole : l ≡ j * 256 + (128 + r) = omega arith in
    let small : r < 256 = omega arith in
    let large : 128 + r < 256 = omega arith in
    ap (λ n. n / 256) cut ∙ digits_div j small ∙ sym (ap (λ n. n / 256) whole ∙ digits_div j large)

cut_fields : (l : ℕ) → bit 16 l ≡ 1 → bit 128 l ≡ 1 → SameFields (l - 128) l
cut_fields l h k = record {
  shiftee = omega arith;
  way = omega arith;
  stype = let four : (l - 128) / 32 + 4 ≡ l / 32 = omega arith in omega arith;
  shifter = ap (λ n. n % 16) (without_bit_7 l k);
  amount = λ z. absurd (omega arith);
}

both_set : (a b : Bool) → (a && b) ≡ true → (a ≡ true) × (b ≡ true)
both_set true true e = (refl, refl)
both_set true false e = (refl, e)
both_set false b e = absurd (both_ways false refl e)

pub fields_kept : (s : RegShift) → shift_fields (shift_word s) ≡ shift_fields s.«data»
fields_kept s = by (eqb (bit 16 low) 1 && eqb (bit 128 low) 1) refl ∙ fields_equal _ _ (low_fields s.«data»)
  where
    low : ℕ
    low = s.«data» % 4096

    by : (t : Bool) → (eqb (bit 16 low) 1 && eqb (bit 128 low) 1) ≡ t → shift_fields (cond t (low - 128) low) ≡ shift_fields low
    by true e =
        let bits = both_set _ _ e in
        fields_equal _ _ (cut_fields low (eqb-true _ 1 bits.0) (eqb-true _ 1 bits.1))
    by false e = refl
