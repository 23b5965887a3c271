-- The row of each operand has at most 65 bytes and 32 marks. Assumes nothing.
use Rattle.std.proofs.Common.{◌≡◌, ℕ, zero, suc, ◌+◌, ◌-◌, ◌*◌, ◌/◌, ◌%◌, Bool, true, false, cond, not, ◌&&◌, T, eqb, ltb, leb, List, [], ◌∷◌, ◌++◌, map, length, get_or, ℤ, pos, negsuc, codes, refl, arith, lit≤}
use Rattle.std.specs.List.{AllByRecursion}
use Rattle.armv7.specs.declared.operand.Operand.{Operand}
use Rattle.armv7.specs.declared.operand.Operand.TheVariants.{Reg as One, RegWBack, RegList, RegDeref, RegShift as Shifted, RegDerefPostindexRegShift, RegDerefPreindexRegShift, RegDerefPostindexOffset, RegDerefPreindexOffset, RegDerefPostindexReg, RegDerefPreindexReg, Imm12, Imm32, BranchOffset, BranchThumbOffset, Coprocessor, CoprocOption, CReg as Control, BankedReg, BankedSPSR, StatusRegMask as Fields, APSR, SPSR, CPSR, Nothing}
use Rattle.armv7.specs.declared.bank.Bank.{Bank}
use Rattle.armv7.specs.declared.reg.Reg.{Reg}
use Rattle.armv7.specs.declared.shift.ShiftStyle.{ShiftStyle}
use Rattle.armv7.specs.declared.shift.ShiftStyle.TheVariants.{LSL, LSR, ASR, ROR}
use Rattle.armv7.specs.declared.shift.RegShiftStyle.{RegShiftStyle}
use Rattle.armv7.specs.declared.shift.RegShiftStyle.TheVariants.{RegImm, RegReg}
use Rattle.armv7.specs.declared.status.StatusRegMask.{StatusRegMask}
use Rattle.armv7.specs.Banks.{bank_name}
use Rattle.armv7.specs.Registers.{reg_name, creg_number}
use Rattle.armv7.specs.Shifts.{style_name, shift_fields, shift_word}
use Rattle.armv7.specs.Status.{status_name}
use Rattle.sink.specs.declared.sink.Span.TheVariants.{Register}
use Rattle.sink.specs.Items.{Item, text_items}
use Rattle.visitor.specs.Operands.{operand_items, bang, minus, offset_text}
use Rattle.visitor.specs.Texts.{spanned, reg_items, decimal, hex_digit, hex_digits, prefixed, branch_text, followed, joined, chosen, all_regs, list_items, amount_text, shift_items}
use Rattle.blocks.specs.Bounds.{Bounded}
use Rattle.blocks.proofs.Rows.{Text, no_break, row_append, row_text, row_span, row_within, row_behind, text_append, text_within, text, text_if, text_either}

reg_text : (r : Reg) → Text 3 (reg_name r)
reg_text r = text 3 (reg_name r) (grind arith)

bank_text : (b : Bank) → Text 3 (bank_name b)
bank_text b = text 3 (bank_name b) (grind arith)

style_text : (s : ShiftStyle) → Text 3 (style_name s)
style_text s = text 3 (style_name s) (grind arith)

status_text : (m : StatusRegMask) → Text 11 (status_name m)
status_text m = text 11 (status_name m) (grind arith)

pub decimal_text : (n : ℕ) → Text 2 (decimal n)
decimal_text n = text_either (ltb n 10) (record { size = omega arith; one_line = (omega arith, tt) }) (record { size = omega arith; one_line = (omega arith, (omega arith, tt)) })

entry : (P : ℕ → Type 0) (xs : List ℕ) (n d : ℕ) → AllByRecursion P xs → P d → P (get_or xs n d)
entry P [] n d h k = k
entry P (x ∷ xs) zero d h k = h.0
entry P (x ∷ xs) (suc n) d h k = entry P xs n d h.1 k

digit_text : (n : ℕ) → Text 1 (hex_digit n ∷ [])
digit_text n = record { size = omega arith; one_line = (entry (λ b. b ≡ 10 → ⊥) (codes "0123456789abcdef") n 48 (text 16 (codes "0123456789abcdef") refl).one_line (omega arith), tt) }

hex_text : (k n : ℕ) → Text k (hex_digits k n)
hex_text zero n = record { size = omega arith; one_line = tt }
hex_text (suc k) n = text_either (ltb n 16) (text_within (omega arith) (digit_text n)) (text_within (omega arith) (text_append (hex_text k (n / 16)) (digit_text (n % 16))))

pub prefixed_text : (k n : ℕ) → Text (2 + k) (prefixed k n)
prefixed_text k n = text_append (text 2 (codes "0x") refl) (hex_text k n)

branch_row : (scale : ℕ) (z : ℤ) → Text 12 (branch_text scale z)
branch_row scale (pos n) = text_append (text 2 (codes "$+") refl) (prefixed_text 8 (scale * n))
branch_row scale (negsuc n) = text_append (text 2 (codes "$-") refl) (prefixed_text 8 (scale * suc n))

span_row : {n : ℕ} {t : List ℕ} → Text n t → Bounded n 2 (spanned t)
span_row h = row_within (omega arith) (omega arith) (row_span Register (row_text h) (row_text (text 0 [] refl)))

pub reg_row : (r : Reg) → Bounded 3 2 (reg_items r)
reg_row r = span_row (reg_text r)

pub bang_text : (w : Bool) → Text 1 (bang w)
bang_text w = text_if w (text 1 (codes "!") refl)

minus_text : (a : Bool) → Text 1 (minus a)
minus_text a = text_if (not a) (text 1 (codes "-") refl)

offset_row : (a : Bool) (n : ℕ) → Text 9 (offset_text a n)
offset_row a n = text_either (eqb n 0) (text 9 [] refl) (text_append (text 2 (codes ", ") refl) (text_append (minus_text a) (prefixed_text 4 n)))

-- the registers of a list, each behind a comma: the names of those that may be chosen, and two bytes for each
abbrev names_size : List Reg → ℕ
names_size [] = 0
names_size (r ∷ rs) = 2 + (length (reg_name r) + names_size rs)

own_text : (r : Reg) → Text (length (reg_name r)) (reg_name r)
own_text r = record { size = omega arith; one_line = (reg_text r).one_line }

chosen_row : (rs : List Reg) (mask : ℕ) → Bounded (names_size rs) (2 * length rs) (followed (map reg_items (chosen rs mask)))
chosen_row [] mask = row_text (text 0 [] refl)
chosen_row (r ∷ rs) mask = by (eqb (mask % 2) 1) (chosen_row rs (mask / 2))
  where
    by : (b : Bool) → Bounded (names_size rs) (2 * length rs) (followed (map reg_items (chosen rs (mask / 2)))) →
        Bounded (names_size (r ∷ rs)) (2 * suc (length rs)) (followed (map reg_items (cond b (r ∷ chosen rs (mask / 2)) (chosen rs (mask / 2)))))
    by true h = row_within (omega arith) (omega arith) (row_append (row_text (text 2 (codes ", ") refl)) (row_append (span_row (own_text r)) h))
    by false h = row_within (omega arith) (omega arith) h

-- with the comma in front of the first row left out
joined_row : {n m : ℕ} (rows : List (List Item)) → Bounded n m (followed rows) → Bounded (n - 2) m (joined rows)
joined_row [] h = row_within (omega arith) (omega arith) (row_text (text 0 [] refl))
joined_row (r ∷ rows) h = row_within (omega arith) (omega arith) (row_behind (row_behind h))

pub list_row : (mask : ℕ) → Bounded 65 32 (list_items mask)
list_row mask = row_append (row_text (text 1 (codes "{") refl)) (row_append (joined_row (map reg_items (chosen all_regs mask)) (chosen_row all_regs mask)) (row_text (text 1 (codes "}") refl)))

amount_row : (s : ShiftStyle) (n : ℕ) → Text 8 (amount_text s n)
amount_row LSL n = text_either (eqb n 0) (text 8 [] refl) (text_append (text 6 (codes ", lsl ") refl) (decimal_text n))
amount_row LSR n = text_append (text 6 (codes ", lsr ") refl) (decimal_text (cond (eqb n 0) 32 n))
amount_row ASR n = text_append (text 6 (codes ", asr ") refl) (decimal_text (cond (eqb n 0) 32 n))
amount_row ROR n = text_either (eqb n 0) (text 8 (codes ", rrx") refl) (text_append (text 6 (codes ", ror ") refl) (decimal_text n))

shift_row : (s : RegShiftStyle) → Bounded 12 4 (shift_items s)
shift_row (RegImm s) = row_within (lit≤ tt) (lit≤ tt) (row_append (reg_row s.shiftee) (row_text (amount_row s.stype s.imm)))
shift_row (RegReg s) =
    row_append (reg_row s.shiftee)
    (row_append (row_text (text_append (text 2 (codes ", ") refl) (text_append (style_text s.stype) (text 1 (codes " ") refl)))) (reg_row s.shifter))

within : {n m : ℕ} {is : List Item} → T (leb n 65) → T (leb m 32) → Bounded n m is → Bounded 65 32 is
within p q h = row_within (lit≤ p) (lit≤ q) h

written : {n : ℕ} {t : List ℕ} → T (leb n 65) → Text n t → Bounded 65 32 (text_items t)
written p h = within p tt (row_text h)

named : {n : ℕ} {t : List ℕ} → T (leb n 65) → Text n t → Bounded 65 32 (spanned t)
named p h = within p tt (span_row h)

opening : Bounded 1 0 (text_items (codes "["))
opening = row_text (text 1 (codes "[") refl)

closing : (w : Bool) → Text 2 (codes "]" ++ bang w)
closing w = text_append (text 1 (codes "]") refl) (bang_text w)

signed : (t : List ℕ) (a : Bool) → (leb (length t) 3 && no_break t) ≡ true → Text 4 (t ++ minus a)
signed t a e = text_append (text 3 t e) (minus_text a)

pub operand_row : (o : Operand) → Bounded 65 32 (operand_items o)
operand_row (One r) = within tt tt (reg_row r)
operand_row (RegWBack r w) = within tt tt (row_append (reg_row r) (row_text (bang_text w)))
operand_row (RegList m) = list_row m
operand_row (RegDeref r) = within tt tt (row_append opening (row_append (reg_row r) (row_text (text 1 (codes "]") refl))))
operand_row (Shifted s) = within tt tt (shift_row (shift_fields (shift_word s)))
operand_row (RegDerefPostindexRegShift r s a w) =
    within tt tt
    (row_append opening
    (row_append (reg_row r)
    (row_append (row_text (text_append (text 3 (codes "], ") refl) (text_append (minus_text a) (text 1 (codes " ") refl)))) (shift_row (shift_fields (shift_word s))))))
operand_row (RegDerefPreindexRegShift r s a w) =
    within tt tt
    (row_append opening
    (row_append (reg_row r)
    (row_append (row_text (signed (codes ", ") a refl)) (row_append (shift_row (shift_fields (shift_word s))) (row_text (closing w))))))
operand_row (RegDerefPostindexOffset r n a w) =
    within tt tt (row_append opening (row_append (reg_row r) (row_text (text_append (text 1 (codes "]") refl) (offset_row a n)))))
operand_row (RegDerefPreindexOffset r n a w) =
    within tt tt (row_append opening (row_append (reg_row r) (row_text (text_append (offset_row a n) (closing w)))))
operand_row (RegDerefPostindexReg r o a w) =
    within tt tt
    (row_append opening
    (row_append (reg_row r) (row_append (row_text (signed (codes "], ") a refl)) (row_append (reg_row o) (row_text (bang_text w))))))
operand_row (RegDerefPreindexReg r o a w) =
    within tt tt
    (row_append opening (row_append (reg_row r) (row_append (row_text (signed (codes ", ") a refl)) (row_append (reg_row o) (row_text (closing w))))))
operand_row (Imm12 n) = written tt (prefixed_text 4 n)
operand_row (Imm32 n) = written tt (prefixed_text 8 n)
operand_row (BranchOffset z) = written tt (branch_row 4 z)
operand_row (BranchThumbOffset z) = written tt (branch_row 2 z)
operand_row (Coprocessor n) = written tt (text 0 [] refl)
operand_row (CoprocOption n) = written tt (text_append (text 1 (codes "{") refl) (text_append (prefixed_text 2 n) (text 1 (codes "}") refl)))
operand_row (Control c) = named tt (text_append (text 1 (codes "c") refl) (decimal_text (creg_number c)))
operand_row (BankedReg b r) = named tt (text_append (reg_text r) (text_append (text 1 (codes "_") refl) (bank_text b)))
operand_row (BankedSPSR b) = named tt (text_append (text 5 (codes "spsr_") refl) (bank_text b))
operand_row (Fields m) = named tt (status_text m)
operand_row APSR = named tt (text 4 (codes "apsr") refl)
operand_row SPSR = named tt (text 4 (codes "spsr") refl)
operand_row CPSR = named tt (text 4 (codes "cpsr") refl)
operand_row Nothing = written tt (text 0 [] refl)
