-- The reader on tokens: registers, shifts, banks and masks. Assumes nothing.
use Rattle.std.specs.Prelude.{ℕ, zero, suc, cond, not, ◌&&◌, List, [], ◌∷◌, ℤ, pos, negsuc, Some, None, Ok, Err, codes, Option, Result, ◌==◌, nat_le}
use Rattle.armv7.specs.Shifts.{bit}
use Rattle.armv7.specs.declared.bank.Bank.{Bank}
use Rattle.armv7.specs.declared.bank.Bank.TheVariants.{Usr, Fiq, Irq, Svc, Abt, Und, Mon, Hyp}
use Rattle.armv7.specs.declared.creg.CReg.{CReg}
use Rattle.armv7.specs.declared.creg.CReg.TheVariants.{C0, C1, C2, C3, C4, C5, C6, C7, C8, C9, C10, C11, C12, C13, C14, C15}
use Rattle.armv7.specs.declared.reg.Reg.{Reg}
use Rattle.armv7.specs.declared.reg.Reg.TheVariants.{R0, R1, R2, R3, R4, R5, R6, R7, R8, R9, R10, R11, R12, R13, R14, R15}
use Rattle.armv7.specs.declared.shift.RegShift.{RegShift}
use Rattle.armv7.specs.declared.status.StatusRegMask.{StatusRegMask}
use Rattle.armv7.specs.declared.status.StatusRegMask.TheVariants.{CPSR_C, CPSR_X, CPSR_XC, APSR_G, CPSR_SC, CPSR_SX, CPSR_SXC, APSR_NZCVQ, CPSR_FC, CPSR_FX, CPSR_FXC, APSR_NZCVQG, CPSR_FSC, CPSR_FSX, CPSR_FSXC, SPSR, SPSR_C, SPSR_X, SPSR_XC, SPSR_S, SPSR_SC, SPSR_SX, SPSR_SXC, SPSR_F, SPSR_FC, SPSR_FX, SPSR_FXC, SPSR_FS, SPSR_FSC, SPSR_FSX, SPSR_FSXC}
use Rattle.armv7.specs.declared.fault.Fault.{Fault}
use Rattle.armv7.specs.declared.fault.Fault.TheVariants.{Register as RegisterFault, ShiftWord as ShiftWordFault}
use Rattle.misreading.specs.declared.given.Given.{Given}
use Rattle.misreading.specs.declared.given.Given.TheVariants.{Reg as RegName, CReg as CRegName, RegShift as RegShiftName, Bits, Data, OpenBrace, CloseBrace, Colon}
use Rattle.misreading.specs.declared.misread.Expected.TheVariants.{Bank as a_bank, Mask as a_mask, Distance, Register, Control, ShiftWord}
use Rattle.std.specs.Str.{bytes_eq}
use Rattle.notation.specs.Parsing.{Parser, Table, chosen, number, numbered, after, before, via}
use Rattle.notation.specs.Tokens.{first, others}

-- an item of a list by its number, or the refusal of the number
abbrev pub item : {X : Type 0} → Fault → List X → ℕ → Result X (Option Fault)
item f [] n = Err (Some f)
item f (x ∷ xs) zero = Ok x
item f (x ∷ xs) (suc n) = item f xs n

-- a refusal in the reader's words
abbrev pub refusable : {X : Type 0} → Result X Fault → Result X (Option Fault)
refusable (Ok x) = Ok x
refusable (Err f) = Err (Some f)

-- NAME { FIELD: n }
abbrev pub braced : {X : Type 0} → Given → Given → Parser X → Parser X
braced name field p = after (name ∷ OpenBrace ∷ field ∷ Colon ∷ []) (before p (CloseBrace ∷ []))

abbrev pub registers : List Reg
registers = R0 ∷ R1 ∷ R2 ∷ R3 ∷ R4 ∷ R5 ∷ R6 ∷ R7 ∷ R8 ∷ R9 ∷ R10 ∷ R11 ∷ R12 ∷ R13 ∷ R14 ∷ R15 ∷ []

abbrev pub register : Parser Reg
register = braced RegName Bits (numbered Register 255 (item RegisterFault registers))

abbrev pub controls : List CReg
controls = C0 ∷ C1 ∷ C2 ∷ C3 ∷ C4 ∷ C5 ∷ C6 ∷ C7 ∷ C8 ∷ C9 ∷ C10 ∷ C11 ∷ C12 ∷ C13 ∷ C14 ∷ C15 ∷ []

abbrev pub control : Parser CReg
control = braced CRegName Bits (numbered Control 255 (item RegisterFault controls))

-- the shift word with a number
abbrev pub shift_of : ℕ → Result RegShift (Option Fault)
shift_of n = cond (nat_le n 4095 && not (bit 16 n == 1 && bit 128 n == 1)) (Ok (record { «data» = n })) (Err (Some ShiftWordFault))

abbrev pub shift : Parser RegShift
shift = braced RegShiftName Data (numbered ShiftWord 65535 shift_of)

abbrev pub banks : Table Bank
banks = (codes "Usr", Usr) ∷ (codes "Fiq", Fiq) ∷ (codes "Irq", Irq) ∷ (codes "Svc", Svc) ∷ (codes "Abt", Abt) ∷ (codes "Und", Und) ∷ (codes "Mon", Mon) ∷ (codes "Hyp", Hyp) ∷ []

abbrev pub masks : Table StatusRegMask
masks =
    (codes "CPSR_C", CPSR_C) ∷ (codes "CPSR_X", CPSR_X) ∷ (codes "CPSR_XC", CPSR_XC) ∷ (codes "APSR_G", APSR_G) ∷ (codes "CPSR_SC", CPSR_SC) ∷ (codes "CPSR_SX", CPSR_SX) ∷ (codes "CPSR_SXC", CPSR_SXC) ∷ (codes "APSR_NZCVQ", APSR_NZCVQ) ∷ (codes "CPSR_FC", CPSR_FC) ∷ (codes "CPSR_FX", CPSR_FX) ∷ (codes "CPSR_FXC", CPSR_FXC) ∷ (codes "APSR_NZCVQG", APSR_NZCVQG) ∷ (codes "CPSR_FSC", CPSR_FSC) ∷ (codes "CPSR_FSX", CPSR_FSX) ∷ (codes "CPSR_FSXC", CPSR_FSXC) ∷ (codes "SPSR", SPSR) ∷ (codes "SPSR_C", SPSR_C) ∷ (codes "SPSR_X", SPSR_X) ∷ (codes "SPSR_XC", SPSR_XC) ∷ (codes "SPSR_S", SPSR_S) ∷ (codes "SPSR_SC", SPSR_SC) ∷ (codes "SPSR_SX", SPSR_SX) ∷ (codes "SPSR_SXC", SPSR_SXC) ∷ (codes "SPSR_F", SPSR_F) ∷ (codes "SPSR_FC", SPSR_FC) ∷ (codes "SPSR_FX", SPSR_FX) ∷ (codes "SPSR_FXC", SPSR_FXC) ∷ (codes "SPSR_FS", SPSR_FS) ∷ (codes "SPSR_FSC", SPSR_FSC) ∷ (codes "SPSR_FSX", SPSR_FSX) ∷ (codes "SPSR_FSXC", SPSR_FSXC) ∷ []

abbrev pub bank : Parser Bank
bank = chosen a_bank banks

abbrev pub mask : Parser StatusRegMask
mask = chosen a_mask masks

-- one below zero
abbrev pub negative : ℕ → Result ℤ (Option Fault)
negative zero = Err None
negative (suc n) = Ok (negsuc n)

-- a number of 32 bits with a sign
abbrev pub distance : Parser ℤ
distance ts = cond (bytes_eq (first ts) (codes "-")) (numbered Distance 2147483648 negative (others ts)) (via pos (number Distance 2147483647) ts)
