-- The parts of an instruction are read as they are written. Assumes nothing.
use Rattle.std.proofs.Common.{◌≡◌, ℕ, zero, suc, ◌+◌, ◌^◌, ◌<◌, ◌≤◌, Bool, true, false, cond, not, ◌&&◌, eqb, leb, List, [], ◌∷◌, ◌++◌, length, ℤ, pos, negsuc, Some, None, Ok, Err, codes, decimal, Option, Result, sym, refl, ap, ◌∙◌, subst, ⊎_elim, add-zero, arith}
use Rattle.armv7.specs.Registers.{reg_number, creg_number}
use Rattle.armv7.specs.Shifts.{bit, IsShiftWord}
use Rattle.armv7.specs.declared.bank.Bank.{Bank}
use Rattle.armv7.specs.declared.bank.Bank.TheVariants.{Usr, Fiq, Irq, Svc, Abt, Und, Mon, Hyp}
use Rattle.armv7.specs.declared.creg.CReg.{CReg}
use Rattle.armv7.specs.declared.creg.CReg.TheVariants.{C0, C1, C2, C3, C4, C5, C6, C7, C8, C9, C10, C11, C12, C13, C14, C15}
use Rattle.armv7.specs.declared.reg.Reg.{Reg}
use Rattle.armv7.specs.declared.reg.Reg.TheVariants.{R0, R1, R2, R3, R4, R5, R6, R7, R8, R9, R10, R11, R12, R13, R14, R15}
use Rattle.armv7.specs.declared.shift.RegShift.{RegShift}
use Rattle.armv7.specs.declared.status.StatusRegMask.{StatusRegMask}
use Rattle.armv7.specs.declared.status.StatusRegMask.TheVariants.{CPSR_C, CPSR_X, CPSR_XC, APSR_G, CPSR_SC, CPSR_SX, CPSR_SXC, APSR_NZCVQ, CPSR_FC, CPSR_FX, CPSR_FXC, APSR_NZCVQG, CPSR_FSC, CPSR_FSX, CPSR_FSXC, SPSR, SPSR_C, SPSR_X, SPSR_XC, SPSR_S, SPSR_SC, SPSR_SX, SPSR_SXC, SPSR_F, SPSR_FC, SPSR_FX, SPSR_FXC, SPSR_FS, SPSR_FSC, SPSR_FSX, SPSR_FSXC}
use Rattle.std.proofs.lemmas.Fmt.{decimal_is_IsNumeral, decimal_nonempty}
use Rattle.std.proofs.lemmas.Slice.Eq.{bytes_eq-Decides}
use Rattle.std.proofs.lemmas.Bool.{cond-true, cond-false, cases_Bool, and_parts, and_from, leb-true, le-leb, eqb-true, eq-eqb, both_ways}
use Rattle.std.specs.Str.Parse.{digits_value, AllDigits}
use Rattle.std.specs.Str.{bytes_eq}
use Rattle.armv7.specs.declared.fault.Fault.{Fault}
use Rattle.armv7.specs.declared.fault.Fault.TheVariants.{Register as RegisterFault, ShiftWord as ShiftWordFault}
use Rattle.misreading.specs.declared.given.Given.TheVariants.{Reg as RegName, CReg as CRegName, RegShift as RegShiftName, Bits, Data, OpenBrace, CloseBrace, Colon}
use Rattle.misreading.specs.declared.misread.Expected.{Expected}
use Rattle.misreading.specs.declared.misread.Expected.TheVariants.{Bank as a_bank, Mask as a_mask, Flag, Distance, Register, Control, ShiftWord}
use Rattle.notation.specs.Notation.{bank_word, mask_word, flag_word, in_braces, signed_tokens, a_distance, a_shift, Held}
use Rattle.notation.specs.Parsing.{Tokens, then, taken, judged, row, numeral, number, numbered, flag, via}
use Rattle.notation.specs.Parts.{item, registers, register, controls, control, shift_of, shift, banks, bank, masks, mask, negative, distance}
use Rattle.notation.specs.Tokens.{first, others}
use Rattle.notation.proofs.Faithful.{Faithful, then_ok, some_is, ok_is, ok_pair, taken_ok, first_is, chosen_faithful, after_faithful, before_faithful, via_sound}
use Rattle.notation.proofs.Numbers.{some_from}

bank_solid : (x : Bank) → 0 < length (bank_word x)
bank_solid Usr = omega arith
bank_solid Fiq = omega arith
bank_solid Irq = omega arith
bank_solid Svc = omega arith
bank_solid Abt = omega arith
bank_solid Und = omega arith
bank_solid Mon = omega arith
bank_solid Hyp = omega arith

bank_found : (x : Bank) → row banks (bank_word x) ≡ Some x
bank_found Usr = refl
bank_found Fiq = refl
bank_found Irq = refl
bank_found Svc = refl
bank_found Abt = refl
bank_found Und = refl
bank_found Mon = refl
bank_found Hyp = refl

pub bank_faithful : Faithful (λ _. Unit {0}) (λ x. bank_word x ∷ []) bank
bank_faithful = chosen_faithful a_bank bank_word banks refl bank_solid bank_found

mask_solid : (x : StatusRegMask) → 0 < length (mask_word x)
mask_solid CPSR_C = omega arith
mask_solid CPSR_X = omega arith
mask_solid CPSR_XC = omega arith
mask_solid APSR_G = omega arith
mask_solid CPSR_SC = omega arith
mask_solid CPSR_SX = omega arith
mask_solid CPSR_SXC = omega arith
mask_solid APSR_NZCVQ = omega arith
mask_solid CPSR_FC = omega arith
mask_solid CPSR_FX = omega arith
mask_solid CPSR_FXC = omega arith
mask_solid APSR_NZCVQG = omega arith
mask_solid CPSR_FSC = omega arith
mask_solid CPSR_FSX = omega arith
mask_solid CPSR_FSXC = omega arith
mask_solid SPSR = omega arith
mask_solid SPSR_C = omega arith
mask_solid SPSR_X = omega arith
mask_solid SPSR_XC = omega arith
mask_solid SPSR_S = omega arith
mask_solid SPSR_SC = omega arith
mask_solid SPSR_SX = omega arith
mask_solid SPSR_SXC = omega arith
mask_solid SPSR_F = omega arith
mask_solid SPSR_FC = omega arith
mask_solid SPSR_FX = omega arith
mask_solid SPSR_FXC = omega arith
mask_solid SPSR_FS = omega arith
mask_solid SPSR_FSC = omega arith
mask_solid SPSR_FSX = omega arith
mask_solid SPSR_FSXC = omega arith

mask_found : (x : StatusRegMask) → row masks (mask_word x) ≡ Some x
mask_found CPSR_C = refl
mask_found CPSR_X = refl
mask_found CPSR_XC = refl
mask_found APSR_G = refl
mask_found CPSR_SC = refl
mask_found CPSR_SX = refl
mask_found CPSR_SXC = refl
mask_found APSR_NZCVQ = refl
mask_found CPSR_FC = refl
mask_found CPSR_FX = refl
mask_found CPSR_FXC = refl
mask_found APSR_NZCVQG = refl
mask_found CPSR_FSC = refl
mask_found CPSR_FSX = refl
mask_found CPSR_FSXC = refl
mask_found SPSR = refl
mask_found SPSR_C = refl
mask_found SPSR_X = refl
mask_found SPSR_XC = refl
mask_found SPSR_S = refl
mask_found SPSR_SC = refl
mask_found SPSR_SX = refl
mask_found SPSR_SXC = refl
mask_found SPSR_F = refl
mask_found SPSR_FC = refl
mask_found SPSR_FX = refl
mask_found SPSR_FXC = refl
mask_found SPSR_FS = refl
mask_found SPSR_FSC = refl
mask_found SPSR_FSX = refl
mask_found SPSR_FSXC = refl

pub mask_faithful : Faithful (λ _. Unit {0}) (λ x. mask_word x ∷ []) mask
mask_faithful = chosen_faithful a_mask mask_word masks refl mask_solid mask_found

flag_solid : (x : Bool) → 0 < length (flag_word x)
flag_solid true = omega arith
flag_solid false = omega arith

flag_found : (x : Bool) → row ((codes "false", false) ∷ (codes "true", true) ∷ []) (flag_word x) ≡ Some x
flag_found true = refl
flag_found false = refl

pub flag_faithful : Faithful (λ _. Unit {0}) (λ x. flag_word x ∷ []) flag
flag_faithful = chosen_faithful Flag flag_word ((codes "false", false) ∷ (codes "true", true) ∷ []) refl flag_solid flag_found

numeral_sound : (most : ℕ) (t : List ℕ) (n : ℕ) → numeral most t ≡ Some n → (t ≡ decimal n) × (n ≤ most)
numeral_sound most t n e = by (bytes_eq t (decimal (digits_value 10 t)) && leb (digits_value 10 t) most) refl e
  where
    by : (b : Bool) → (bytes_eq t (decimal (digits_value 10 t)) && leb (digits_value 10 t) most) ≡ b → cond b (Some (digits_value 10 t)) None ≡ Some n → (t ≡ decimal n) × (n ≤ most)
    by true s e =
        let is = some_is (digits_value 10 t) n e in
        let parts = and_parts _ _ s in
        let le = leb-true _ _ parts.1 in
        ((bytes_eq-Decides _ _).0 parts.0 ∙ ap decimal is, omega arith)
    by false s e = absurd (let z : ◌≡◌ {A = ℕ} 0 1 = cc in omega arith)

numeral_complete : (most n : ℕ) → most < 2 ^ 64 → n ≤ most → numeral most (decimal n) ≡ Some n
numeral_complete most n h le =
    let reads = (decimal_is_IsNumeral n (omega arith)).1 in
    some_from most (decimal n) (ap decimal reads) (omega arith) ∙ ap (λ k. Some k) reads

pub number_faithful : (e : Expected) (most : ℕ) → most < 2 ^ 64 → Faithful (λ n. n ≤ most) (λ n. decimal n ∷ []) (number e most)
number_faithful e most h = record {
  sound = λ ts n rest r.
      let is = taken_ok e (numeral most (first ts)) ts n rest r in
      let text = numeral_sound most (first ts) n is.0 in
      let small = text.1 in
      (small, first_is (decimal n) ts (decimal_nonempty n (omega arith)) text.0 ∙ ap (λ l. decimal n ∷ l) is.1);
  complete = λ n can rest. ap (λ o. taken e o (decimal n ∷ rest)) (numeral_complete most n h can);
}

judged_ok : {X : Type 0} (e : Expected) (r : Result X (Option Fault)) (ts : Tokens) (x : X) (rest : Tokens) → judged e r ts ≡ Ok (x, rest) → (r ≡ Ok x) × (others ts ≡ rest)
judged_ok e (Err f) ts x rest h = absurd (let z : ◌≡◌ {A = ℕ} 0 1 = cc in omega arith)
judged_ok e (Ok y) ts x rest h = let is = ok_pair y x (others ts) rest h in (ap (λ v. Ok v) is.0, is.1)

-- a number that stands for something
numbered_faithful : {X : Type 0} {Can : X → Type 0} (e : Expected) (most : ℕ) → most < 2 ^ 64 → (f : ℕ → Result X (Option Fault)) (g : X → ℕ) → ((x : X) → Can x → g x ≤ most) → ((x : X) → Can x → f (g x) ≡ Ok x) → ((n : ℕ) (x : X) → f n ≡ Ok x → Can x × (g x ≡ n)) → Faithful Can (λ x. decimal (g x) ∷ []) (numbered e most f)
numbered_faithful {X} {Can} e most h f g small back forth = record {
  sound = λ ts x rest r.
      let one = then_ok (number e most ts) (λ n. judged e (f n.0) ts) (x, rest) r in
      let is = judged_ok e (f one.0.0) ts x rest one.1.1 in
      let was = taken_ok e (numeral most (first ts)) ts one.0.0 one.0.1 one.1.0 in
      let from = forth one.0.0 x is.0 in (
        from.0,
        ((number_faithful e most h).sound ts one.0.0 one.0.1 one.1.0).1
            ∙ ap (λ n. decimal n ∷ one.0.1) (sym from.1)
            ∙ ap (λ l. decimal (g x) ∷ l) (sym was.1 ∙ is.1),
      );
  complete = λ x can rest.
      ap (λ o. then o (λ n. judged e (f n.0) (decimal (g x) ∷ rest))) ((number_faithful e most h).complete (g x) (small x can) rest)
      ∙ ap (λ r. judged e r (decimal (g x) ∷ rest)) (back x can);
}

-- the items of a list have the numbers from k on
abbrev Counts : {X : Type 0} → (X → ℕ) → ℕ → List X → Type 0
Counts g k [] = Unit {0}
Counts g k (x ∷ xs) = (g x ≡ k) × Counts g (suc k) xs

item_counts : {X : Type 0} (f : Fault) (g : X → ℕ) (k : ℕ) (xs : List X) → Counts g k xs → (n : ℕ) (y : X) → item f xs n ≡ Ok y → g y ≡ k + n
item_counts f g k [] c n y e = absurd (let z : ◌≡◌ {A = ℕ} 0 1 = cc in omega arith)
item_counts f g k (x ∷ xs) c zero y e = sym (ap g (ok_is x y e)) ∙ c.0 ∙ sym (add-zero k)
item_counts f g k (x ∷ xs) c (suc n) y e = let later = item_counts f g (suc k) xs c.1 n y e in omega arith

reg_small : (r : Reg) → reg_number r ≤ 255
reg_small R0 = omega arith
reg_small R1 = omega arith
reg_small R2 = omega arith
reg_small R3 = omega arith
reg_small R4 = omega arith
reg_small R5 = omega arith
reg_small R6 = omega arith
reg_small R7 = omega arith
reg_small R8 = omega arith
reg_small R9 = omega arith
reg_small R10 = omega arith
reg_small R11 = omega arith
reg_small R12 = omega arith
reg_small R13 = omega arith
reg_small R14 = omega arith
reg_small R15 = omega arith

reg_item : (r : Reg) → item RegisterFault registers (reg_number r) ≡ Ok r
reg_item R0 = refl
reg_item R1 = refl
reg_item R2 = refl
reg_item R3 = refl
reg_item R4 = refl
reg_item R5 = refl
reg_item R6 = refl
reg_item R7 = refl
reg_item R8 = refl
reg_item R9 = refl
reg_item R10 = refl
reg_item R11 = refl
reg_item R12 = refl
reg_item R13 = refl
reg_item R14 = refl
reg_item R15 = refl

reg_is : (n : ℕ) (r : Reg) → item RegisterFault registers n ≡ Ok r → reg_number r ≡ n
reg_is n r e = let is = item_counts RegisterFault reg_number 0 registers (refl, (refl, (refl, (refl, (refl, (refl, (refl, (refl, (refl, (refl, (refl, (refl, (refl, (refl, (refl, (refl, tt)))))))))))))))) n r e in omega arith

pub register_faithful : Faithful (λ _. Unit {0}) (λ r. in_braces (codes "Reg") (codes "bits") (reg_number r)) register
register_faithful = after_faithful (RegName ∷ OpenBrace ∷ Bits ∷ Colon ∷ []) (omega arith, (omega arith, (omega arith, (omega arith, tt)))) (before_faithful (CloseBrace ∷ []) (omega arith, tt) (numbered_faithful Register 255 (omega arith) (item RegisterFault registers) reg_number (λ r _. reg_small r) (λ r _. reg_item r) (λ n r e. (tt, reg_is n r e))))

creg_small : (r : CReg) → creg_number r ≤ 255
creg_small C0 = omega arith
creg_small C1 = omega arith
creg_small C2 = omega arith
creg_small C3 = omega arith
creg_small C4 = omega arith
creg_small C5 = omega arith
creg_small C6 = omega arith
creg_small C7 = omega arith
creg_small C8 = omega arith
creg_small C9 = omega arith
creg_small C10 = omega arith
creg_small C11 = omega arith
creg_small C12 = omega arith
creg_small C13 = omega arith
creg_small C14 = omega arith
creg_small C15 = omega arith

creg_item : (r : CReg) → item RegisterFault controls (creg_number r) ≡ Ok r
creg_item C0 = refl
creg_item C1 = refl
creg_item C2 = refl
creg_item C3 = refl
creg_item C4 = refl
creg_item C5 = refl
creg_item C6 = refl
creg_item C7 = refl
creg_item C8 = refl
creg_item C9 = refl
creg_item C10 = refl
creg_item C11 = refl
creg_item C12 = refl
creg_item C13 = refl
creg_item C14 = refl
creg_item C15 = refl

creg_is : (n : ℕ) (r : CReg) → item RegisterFault controls n ≡ Ok r → creg_number r ≡ n
creg_is n r e = let is = item_counts RegisterFault creg_number 0 controls (refl, (refl, (refl, (refl, (refl, (refl, (refl, (refl, (refl, (refl, (refl, (refl, (refl, (refl, (refl, (refl, tt)))))))))))))))) n r e in omega arith

pub control_faithful : Faithful (λ _. Unit {0}) (λ r. in_braces (codes "CReg") (codes "bits") (creg_number r)) control
control_faithful = after_faithful (CRegName ∷ OpenBrace ∷ Bits ∷ Colon ∷ []) (omega arith, (omega arith, (omega arith, (omega arith, tt)))) (before_faithful (CloseBrace ∷ []) (omega arith, tt) (numbered_faithful Control 255 (omega arith) (item RegisterFault controls) creg_number (λ r _. creg_small r) (λ r _. creg_item r) (λ n r e. (tt, creg_is n r e))))

-- is n one of the shift words?
abbrev lawful : ℕ → Bool
lawful n = leb n 4095 && not (eqb (bit 16 n) 1 && eqb (bit 128 n) 1)

word_lawful : (n : ℕ) → IsShiftWord n → lawful n ≡ true
word_lawful n h = and_from _ _ (le-leb _ _ h.range) (by (eqb (bit 16 n) 1) (eqb (bit 128 n) 1) (λ a b. h.apart (eqb-true _ _ a) (eqb-true _ _ b)))
  where
    by : (a b : Bool) → (a ≡ true → b ≡ true → ⊥) → not (a && b) ≡ true
    by true true apart = absurd (apart refl refl)
    by true false apart = refl
    by false b apart = refl

shift_back : (s : RegShift) → IsShiftWord s.«data» → shift_of s.«data» ≡ Ok s
shift_back s h = cond-true _ _ _ (word_lawful s.«data» h)

lawful_word : (n : ℕ) → lawful n ≡ true → IsShiftWord n
lawful_word n e =
    let parts = and_parts _ _ e in
    record {
      range = leb-true _ _ parts.0;
      apart = λ a b. both_ways _ (ap not (and_from _ _ (eq-eqb _ _ a) (eq-eqb _ _ b))) parts.1;
    }

shift_forth : (n : ℕ) (s : RegShift) → shift_of n ≡ Ok s → IsShiftWord s.«data» × (s.«data» ≡ n)
shift_forth n s e = by (lawful n) refl e
  where
    by : (t : Bool) → lawful n ≡ t → cond t (Ok (record { «data» = n })) (Err (Some ShiftWordFault)) ≡ Ok s → IsShiftWord s.«data» × (s.«data» ≡ n)
    by true l e =
        let is : s ≡ record { «data» = n } = sym (ok_is (record { «data» = n }) s e) in
        (subst (λ x. IsShiftWord x.«data») (sym is) (lawful_word n l), ap (λ x. x.«data») is)
    by false l e = absurd (let z : ◌≡◌ {A = ℕ} 0 1 = cc in omega arith)

word_small : (s : RegShift) → IsShiftWord s.«data» → s.«data» ≤ 65535
word_small s h = let small = h.range in omega arith

pub shift_faithful : Faithful (λ s. Held (a_shift s)) (λ r. in_braces (codes "RegShift") (codes "data") r.«data») shift
shift_faithful = after_faithful (RegShiftName ∷ OpenBrace ∷ Data ∷ Colon ∷ []) (omega arith, (omega arith, (omega arith, (omega arith, tt)))) (before_faithful (CloseBrace ∷ []) (omega arith, tt) (numbered_faithful ShiftWord 65535 (omega arith) shift_of (λ s. s.«data») word_small shift_back shift_forth))

minus_is : (n : ℕ) (z : ℤ) → n ≤ 2147483648 → negative n ≡ Ok z → Held (a_distance z) × (signed_tokens z ≡ codes "-" ∷ decimal n ∷ [])
minus_is zero z h e = absurd (let no_such : ◌≡◌ {A = ℕ} 0 1 = cc in omega arith)
minus_is (suc n) z h e =
    let is = ok_is (negsuc n) z e in
    let small : n ≤ 2147483647 = omega arith in
    (subst (λ y. Held (a_distance y)) is small, sym (ap signed_tokens is))

no_minus : (n : ℕ) → n < 2 ^ 64 → bytes_eq (decimal n) (codes "-") ≡ false
no_minus n h = ⊎_elim
    (λ t. let digits : AllDigits 10 (codes "-") = subst (AllDigits 10) ((bytes_eq-Decides _ _).0 t) (decimal_is_IsNumeral n h).0.1 in absurd (omega (arith, digits.0)))
    (λ f. f)
    (cases_Bool (bytes_eq (decimal n) (codes "-")))

distance_sound : (ts : Tokens) (z : ℤ) (rest : Tokens) → distance ts ≡ Ok (z, rest) → Held (a_distance z) × (ts ≡ signed_tokens z ++ rest)
distance_sound ts z rest e = by (bytes_eq (first ts) (codes "-")) refl e
  where
    by : (t : Bool) → bytes_eq (first ts) (codes "-") ≡ t → cond t (numbered Distance 2147483648 negative (others ts)) (via pos (number Distance 2147483647) ts) ≡ Ok (z, rest) → Held (a_distance z) × (ts ≡ signed_tokens z ++ rest)
    by true s e =
        let one = then_ok (number Distance 2147483648 (others ts)) (λ n. judged Distance (negative n.0) (others ts)) (z, rest) e in
        let is = judged_ok Distance (negative one.0.0) (others ts) z rest one.1.1 in
        let was = taken_ok Distance (numeral 2147483648 (first (others ts))) (others ts) one.0.0 one.0.1 one.1.0 in
        let part = (number_faithful Distance 2147483648 (omega arith)).sound (others ts) one.0.0 one.0.1 one.1.0 in
        let from = minus_is one.0.0 z part.0 is.0 in (
          from.0,
          first_is (codes "-") ts (omega arith) ((bytes_eq-Decides _ _).0 s)
              ∙ ap (λ l. codes "-" ∷ l) part.1
              ∙ ap (λ l. codes "-" ∷ decimal one.0.0 ∷ l) (sym was.1 ∙ is.1)
              ∙ sym (ap (λ l. l ++ rest) from.1),
        )
    by false s e =
        let one = via_sound pos (number Distance 2147483647) ts z rest e in
        let part = (number_faithful Distance 2147483647 (omega arith)).sound ts one.0 rest one.1.0 in
        (subst (λ y. Held (a_distance y)) one.1.1 part.0, part.1 ∙ ap (λ y. signed_tokens y ++ rest) one.1.1)

distance_complete : (z : ℤ) → Held (a_distance z) → (rest : Tokens) → distance (signed_tokens z ++ rest) ≡ Ok (z, rest)
distance_complete (pos n) can rest =
    cond-false _ _ _ (no_minus n (omega arith))
    ∙ ap (λ o. then o (λ x. Ok (pos x.0, x.1))) ((number_faithful Distance 2147483647 (omega arith)).complete n can rest)
distance_complete (negsuc n) can rest =
    ap (λ o. then o (λ x. judged Distance (negative x.0) (decimal (suc n) ∷ rest))) ((number_faithful Distance 2147483648 (omega arith)).complete (suc n) (omega arith) rest)

pub distance_faithful : Faithful (λ z. Held (a_distance z)) signed_tokens distance
distance_faithful = record { sound = distance_sound; complete = distance_complete }
