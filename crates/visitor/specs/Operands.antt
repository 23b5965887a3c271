-- The text of each operand, and which operands have none. Assumes nothing.
use Rattle.std.specs.Prelude.{ℕ, Bool, cond, not, List, [], ◌++◌, ℤ, pos, negsuc, Some, None, codes, Option, ◌==◌, nat_lt}
use Rattle.armv7.specs.declared.operand.Operand.{Operand}
use Rattle.armv7.specs.declared.operand.Operand.TheVariants.{Reg as One, RegWBack, RegList, RegDeref, RegShift as Shifted, RegDerefPostindexRegShift, RegDerefPreindexRegShift, RegDerefPostindexOffset, RegDerefPreindexOffset, RegDerefPostindexReg, RegDerefPreindexReg, Imm12, Imm32, BranchOffset, BranchThumbOffset, Coprocessor, CoprocOption, CReg as Control, BankedReg, BankedSPSR, StatusRegMask as Fields, APSR, SPSR, CPSR, Nothing}
use Rattle.armv7.specs.Banks.{bank_name}
use Rattle.armv7.specs.Faults.{Refusal, refused_with}
use Rattle.armv7.specs.Registers.{reg_name, creg_number}
use Rattle.armv7.specs.Shifts.{shift_word, shift_fields}
use Rattle.armv7.specs.Status.{status_name}
use Rattle.sink.specs.Items.{Item, text_items}
use Rattle.visitor.specs.Texts.{flagged, spanned, reg_items, decimal, prefixed, branch_text, list_items, shift_items}

abbrev pub bang : Bool → List ℕ
bang w = flagged w (codes "!")

-- what is taken off has a minus
abbrev pub minus : Bool → List ℕ
minus add = flagged (not add) (codes "-")

-- an offset of 0 is not shown
abbrev pub offset_text : Bool → ℕ → List ℕ
offset_text add n = cond (n == 0) [] (codes ", " ++ (minus add ++ prefixed 4 n))

abbrev pub operand_items : Operand → List Item
operand_items (One r) = reg_items r
operand_items (RegWBack r w) = reg_items r ++ text_items (bang w)
operand_items (RegList m) = list_items m
operand_items (RegDeref r) = text_items (codes "[") ++ (reg_items r ++ text_items (codes "]"))
operand_items (Shifted s) = shift_items (shift_fields (shift_word s))
operand_items (RegDerefPostindexRegShift r s a w) = text_items (codes "[") ++ (reg_items r ++ (text_items (codes "], " ++ (minus a ++ codes " ")) ++ shift_items (shift_fields (shift_word s))))
operand_items (RegDerefPreindexRegShift r s a w) = text_items (codes "[") ++ (reg_items r ++ (text_items (codes ", " ++ minus a) ++ (shift_items (shift_fields (shift_word s)) ++ text_items (codes "]" ++ bang w))))
operand_items (RegDerefPostindexOffset r n a w) = text_items (codes "[") ++ (reg_items r ++ text_items (codes "]" ++ offset_text a n))
operand_items (RegDerefPreindexOffset r n a w) = text_items (codes "[") ++ (reg_items r ++ text_items (offset_text a n ++ (codes "]" ++ bang w)))
operand_items (RegDerefPostindexReg r o a w) = text_items (codes "[") ++ (reg_items r ++ (text_items (codes "], " ++ minus a) ++ (reg_items o ++ text_items (bang w))))
operand_items (RegDerefPreindexReg r o a w) = text_items (codes "[") ++ (reg_items r ++ (text_items (codes ", " ++ minus a) ++ (reg_items o ++ text_items (codes "]" ++ bang w))))
operand_items (Imm12 n) = text_items (prefixed 4 n)
operand_items (Imm32 n) = text_items (prefixed 8 n)
operand_items (BranchOffset z) = text_items (branch_text 4 z)
operand_items (BranchThumbOffset z) = text_items (branch_text 2 z)
operand_items (Coprocessor n) = []
operand_items (CoprocOption n) = text_items (codes "{" ++ (prefixed 2 n ++ codes "}"))
operand_items (Control c) = spanned (codes "c" ++ decimal (creg_number c))
operand_items (BankedReg b r) = spanned (reg_name r ++ (codes "_" ++ bank_name b))
operand_items (BankedSPSR b) = spanned (codes "spsr_" ++ bank_name b)
operand_items (Fields m) = spanned (status_name m)
operand_items APSR = spanned (codes "apsr")
operand_items SPSR = spanned (codes "spsr")
operand_items CPSR = spanned (codes "cpsr")
operand_items Nothing = []

-- how far a branch goes, forwards or backwards
abbrev pub reach : ℤ → ℕ
reach (pos n) = n
reach (negsuc n) = n

-- a distance goes fewer than this many steps forwards, or at most as many backwards
abbrev pub beyond : ℕ → ℕ → ℤ → Option Refusal
beyond place steps z = cond (nat_lt (reach z) steps) None (Some (refused_with 8 place))

-- why the operand at a place cannot be printed
abbrev pub operand_refused : ℕ → Operand → Option Refusal
operand_refused p (One r) = None
operand_refused p (RegWBack r w) = None
operand_refused p (RegList m) = None
operand_refused p (RegDeref r) = None
operand_refused p (Shifted s) = None
operand_refused p (RegDerefPostindexRegShift r s a w) = cond w (Some (refused_with 7 p)) None
operand_refused p (RegDerefPreindexRegShift r s a w) = None
operand_refused p (RegDerefPostindexOffset r n a w) = None
operand_refused p (RegDerefPreindexOffset r n a w) = None
operand_refused p (RegDerefPostindexReg r o a w) = None
operand_refused p (RegDerefPreindexReg r o a w) = None
operand_refused p (Imm12 n) = None
operand_refused p (Imm32 n) = None
operand_refused p (BranchOffset z) = beyond p 536870912 z
operand_refused p (BranchThumbOffset z) = beyond p 1073741824 z
operand_refused p (Coprocessor n) = Some (refused_with 6 p)
operand_refused p (CoprocOption n) = None
operand_refused p (Control c) = None
operand_refused p (BankedReg b r) = None
operand_refused p (BankedSPSR b) = None
operand_refused p (Fields m) = None
operand_refused p APSR = None
operand_refused p SPSR = None
operand_refused p CPSR = None
operand_refused p Nothing = Some (refused_with 6 p)
