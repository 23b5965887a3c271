-- The text of registers, numbers and shifts. Assumes nothing.
use Rattle.std.specs.Prelude.{ℕ, zero, suc, ◌+◌, ◌*◌, ◌/◌, ◌%◌, Bool, cond, List, [], ◌∷◌, ◌++◌, map, ℤ, pos, negsuc, codes, ◌==◌, nat_lt, slice_index_or}
use Rattle.armv7.specs.declared.reg.Reg.{Reg}
use Rattle.armv7.specs.declared.reg.Reg.TheVariants.{R0, R1, R2, R3, R4, R5, R6, R7, R8, R9, R10, R11, R12, R13, R14, R15}
use Rattle.armv7.specs.declared.shift.RegShiftStyle.{RegShiftStyle}
use Rattle.armv7.specs.declared.shift.RegShiftStyle.TheVariants.{RegImm, RegReg}
use Rattle.armv7.specs.declared.shift.ShiftStyle.{ShiftStyle}
use Rattle.armv7.specs.declared.shift.ShiftStyle.TheVariants.{LSL, LSR, ASR, ROR}
use Rattle.armv7.specs.Registers.{reg_name}
use Rattle.armv7.specs.Shifts.{style_name}
use Rattle.sink.specs.declared.sink.Span.TheVariants.{Register}
use Rattle.sink.specs.Items.{Item, text_items, within}

-- a text that stands only under a flag
abbrev pub flagged : Bool → List ℕ → List ℕ
flagged b t = cond b t []

-- a name in a register span
abbrev pub spanned : List ℕ → List Item
spanned name = within Register (text_items name)

abbrev pub reg_items : Reg → List Item
reg_items r = spanned (reg_name r)

-- a number below 100, in decimal
abbrev pub decimal : ℕ → List ℕ
decimal n = cond (nat_lt n 10) ((48 + n) ∷ []) ((48 + n / 10) ∷ (48 + n % 10) ∷ [])

abbrev pub hex_digit : ℕ → ℕ
hex_digit n = slice_index_or (codes "0123456789abcdef") n 48

-- the last k digits of n in base 16, without leading zeros
abbrev pub hex_digits : ℕ → ℕ → List ℕ
hex_digits zero n = []
hex_digits (suc k) n = cond (nat_lt n 16) (hex_digit n ∷ []) (hex_digits k (n / 16) ++ hex_digit (n % 16) ∷ [])

abbrev pub prefixed : ℕ → ℕ → List ℕ
prefixed k n = codes "0x" ++ hex_digits k n

-- a branch distance, in steps of the scale
abbrev pub branch_text : ℕ → ℤ → List ℕ
branch_text scale (pos n) = codes "$+" ++ prefixed 8 (scale * n)
branch_text scale (negsuc n) = codes "$-" ++ prefixed 8 (scale * suc n)

-- rows one after the other, each behind a comma
abbrev pub followed : List (List Item) → List Item
followed [] = []
followed (r ∷ rs) = text_items (codes ", ") ++ (r ++ followed rs)

-- rows one after the other, with commas between them
abbrev pub joined : List (List Item) → List Item
joined [] = []
joined (r ∷ rs) = r ++ followed rs

-- those of the registers whose bits are set, the first having the lowest bit
abbrev pub chosen : List Reg → ℕ → List Reg
chosen [] mask = []
chosen (r ∷ rs) mask = cond (mask % 2 == 1) (r ∷ chosen rs (mask / 2)) (chosen rs (mask / 2))

abbrev pub all_regs : List Reg
all_regs = R0 ∷ R1 ∷ R2 ∷ R3 ∷ R4 ∷ R5 ∷ R6 ∷ R7 ∷ R8 ∷ R9 ∷ R10 ∷ R11 ∷ R12 ∷ R13 ∷ R14 ∷ R15 ∷ []

abbrev pub list_items : ℕ → List Item
list_items mask = text_items (codes "{") ++ (joined (map reg_items (chosen all_regs mask)) ++ text_items (codes "}"))

-- the kind of a shift, with what stands around its name
abbrev pub style_text : ShiftStyle → List ℕ
style_text s = codes ", " ++ (style_name s ++ codes " ")

-- a shift by an amount: none shows nothing, and those that 0 stands for show what the manual means by it
abbrev pub amount_text : ShiftStyle → ℕ → List ℕ
amount_text LSL n = cond (n == 0) [] (style_text LSL ++ decimal n)
amount_text LSR n = style_text LSR ++ decimal (cond (n == 0) 32 n)
amount_text ASR n = style_text ASR ++ decimal (cond (n == 0) 32 n)
amount_text ROR n = cond (n == 0) (codes ", rrx") (style_text ROR ++ decimal n)

abbrev pub shift_items : RegShiftStyle → List Item
shift_items (RegImm s) = reg_items s.shiftee ++ text_items (amount_text s.stype s.imm)
shift_items (RegReg s) = reg_items s.shiftee ++ (text_items (style_text s.stype) ++ reg_items s.shifter)
