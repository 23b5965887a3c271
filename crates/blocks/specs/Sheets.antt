-- The sheet of an instruction, if it is a block transfer or a transfer on the stack. Assumes nothing.
use Rattle.std.specs.Prelude.{◌≡◌, ℕ, ◌%◌, ◌^◌, Bool, true, false, not, ◌↔◌, Some, None, Option}
use Rattle.armv7.specs.declared.instruction.Instruction.{Instruction}
use Rattle.armv7.specs.declared.operand.Operand.{Operand}
use Rattle.armv7.specs.declared.operand.Operand.TheVariants.{RegWBack, RegList, Nothing}
use Rattle.armv7.specs.declared.reg.Reg.{Reg}
use Rattle.armv7.specs.declared.reg.Reg.TheVariants.{R13}
use Rattle.armv7.specs.Registers.{reg_number}
use Rattle.opcode.specs.declared.Opcode.{Opcode}
use Rattle.opcode.specs.declared.Opcode.TheVariants.{LDM, STM, POP, PUSH}
use Rattle.sink.specs.Items.{bytes}
use Rattle.lines.specs.declared.alias.StackForm.{StackForm}
use Rattle.lines.specs.declared.alias.Stacked.{Stacked}
use Rattle.lines.specs.declared.alias.Stacked.TheVariants.{List as ListOf, One}
use Rattle.lines.specs.Admission.{refused}
use Rattle.lines.specs.Lines.{line}
use Rattle.lines.specs.Moved.{on_stack}
use Rattle.lines.specs.Operands.{operand}
use Rattle.blocks.specs.declared.fields.Sheet.{Sheet}
use Rattle.blocks.specs.Grammar.{Fits}

-- a sheet with the condition and the suffixes of an instruction
abbrev pub sheet_with : Bool → Bool → Bool → Reg → Bool → ℕ → Bool → Instruction → Sheet
sheet_with load add pre base wback mask user i = record {
  load = load;
  add = add;
  pre = pre;
  base = base;
  wback = wback;
  mask = mask;
  condition = i.condition;
  s = i.s;
  w = i.thumb_w;
  user = user;
}

-- the mask of a list is its low sixteen bits
abbrev pub low : ℕ → ℕ
low mask = mask % 65536

-- a base register, and a list
abbrev pub block_sheet : Bool → Bool → Bool → Bool → Operand → Operand → Instruction → Option Sheet
block_sheet load add pre user (RegWBack b w) (RegList mask) i = Some (sheet_with load add pre b w (low mask) user i)
block_sheet load add pre user first second i = None

-- a load from sp on, which rises, or a store below sp, which falls
abbrev pub stack_sheet : Bool → ℕ → Instruction → Sheet
stack_sheet load mask i = sheet_with load load (not load) R13 true mask false i

-- a list, and no operand behind it
abbrev pub list_sheet : Bool → Operand → Operand → Instruction → Option Sheet
list_sheet load (RegList mask) Nothing i = Some (stack_sheet load (low mask) i)
list_sheet load first second i = None

abbrev pub own_sheet : Opcode → Instruction → Option Sheet
own_sheet (LDM add pre wback user) i = block_sheet true add pre user (operand 0 i) (operand 1 i) i
own_sheet (STM add pre wback user) i = block_sheet false add pre user (operand 0 i) (operand 1 i) i
own_sheet POP i = list_sheet true (operand 0 i) (operand 1 i) i
own_sheet PUSH i = list_sheet false (operand 0 i) (operand 1 i) i
own_sheet other i = None

-- the registers that a pop or a push moves
abbrev pub mask_of : Stacked → ℕ
mask_of (ListOf mask) = low mask
mask_of (One r) = 2 ^ reg_number r

abbrev pub sheet_by : Option StackForm → Instruction → Option Sheet
sheet_by (Some form) i = Some (stack_sheet form.load (mask_of form.moved) i)
sheet_by None i = own_sheet i.opcode i

unfoldable pub sheet_of : Instruction → Option Sheet
sheet_of i = sheet_by (on_stack i) i

-- if the instruction is printed, its line fits exactly the sheet that is given
abbrev pub FitsOnly : Instruction → Option Sheet → Type 0
FitsOnly i o = refused i ≡ None → (t : Sheet) → Fits (bytes (line i)) t ↔ (o ≡ Some t)

abbrev pub OwnSheets : Type 0
OwnSheets = (i : Instruction) → FitsOnly i (sheet_of i)
