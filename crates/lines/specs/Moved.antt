-- What a block transfer moves, and which instructions are a pop or a push: the four forms under another name. Assumes nothing.
use Rattle.std.specs.Prelude.{Bool, true, false, cond, not, ◌&&◌, Some, None, Option, ◌==◌}
use Rattle.armv7.specs.declared.instruction.Instruction.{Instruction}
use Rattle.armv7.specs.declared.operand.Operand.{Operand}
use Rattle.armv7.specs.declared.operand.Operand.TheVariants.{Reg as Register, RegWBack, RegList, RegDerefPostindexOffset, RegDerefPreindexOffset}
use Rattle.armv7.specs.declared.reg.Reg.{Reg}
use Rattle.armv7.specs.Registers.{reg_number}
use Rattle.kind.specs.declared.Kind.{Kind}
use Rattle.kind.specs.declared.Kind.TheVariants.{Block as BlockKind}
use Rattle.kind.specs.Kinds.{kind_of}
use Rattle.opcode.specs.declared.Opcode.{Opcode}
use Rattle.opcode.specs.declared.Opcode.TheVariants.{LDM, STM, LDR, STR}
use Rattle.lines.specs.declared.alias.StackForm.{StackForm}
use Rattle.lines.specs.declared.alias.Stacked.{Stacked}
use Rattle.lines.specs.declared.alias.Stacked.TheVariants.{List as ListOf, One}
use Rattle.lines.specs.declared.form.Block.{Block}
use Rattle.lines.specs.Operands.{operand, two_only}

abbrev pub pop : Stacked → StackForm
pop what = record { load = true; moved = what }

abbrev pub push : Stacked → StackForm
push what = record { load = false; moved = what }

abbrev pub at_sp : Reg → Bool
at_sp r = reg_number r == 13

-- this form, if a test holds
abbrev pub when : Bool → StackForm → Option StackForm
when test form = cond test (Some form) None

-- a list that is loaded from sp on, which rises past it, or stored below sp, which falls to it; one register that is loaded from
-- sp, which then rises by 4, or stored below sp, which first falls by 4: with no operand behind the first two
abbrev pub stack_by : Opcode → Operand → Operand → Bool → Option StackForm
stack_by (LDM true false false false) (RegWBack b w) (RegList mask) only = when (at_sp b && w) (pop (ListOf mask))
stack_by (STM false true false false) (RegWBack b w) (RegList mask) only = when (at_sp b && w) (push (ListOf mask))
stack_by LDR (Register t) (RegDerefPostindexOffset b n add w) only = when (at_sp b && (n == 4 && (add && (not w && only)))) (pop (One t))
stack_by STR (Register t) (RegDerefPreindexOffset b n add w) only = when (at_sp b && (n == 4 && (not add && (w && only)))) (push (One t))
stack_by other first second only = None

-- the form under another name that an instruction is, if it is one
abbrev pub on_stack : Instruction → Option StackForm
on_stack i = stack_by i.opcode (operand 0 i) (operand 1 i) (two_only i)

-- what is moved between registers and memory: under another name, or by a block transfer under its own
pub data Moved : Type 0 where
  stacked : StackForm → Moved
  transferred : Block → Moved

abbrev pub moved_by : Option StackForm → Kind → Operand → Operand → Option Moved
moved_by (Some form) kind first second = Some (stacked form)
moved_by None (BlockKind user) (RegWBack b w) (RegList mask) = Some (transferred (record { base = b; wback = w; mask = mask; user = user }))
moved_by None kind first second = None

abbrev pub moved : Instruction → Option Moved
moved i = moved_by (on_stack i) (kind_of i.opcode) (operand 0 i) (operand 1 i)
