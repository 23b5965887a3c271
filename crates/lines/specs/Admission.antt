-- Which instructions are not printed, and why. Assumes nothing.
use Rattle.std.specs.Prelude.{◌≡◌, ℕ, suc, Bool, cond, List, [], ◌∷◌, Some, None, Option, nat_lt}
use Rattle.armv7.specs.declared.instruction.Instruction.{Instruction}
use Rattle.armv7.specs.declared.operand.Operand.{Operand}
use Rattle.armv7.specs.declared.operand.Operand.TheVariants.{RegWBack, RegList, Imm12, Imm32}
use Rattle.armv7.specs.Faults.{Refusal, refused_with, no_operand}
use Rattle.kind.specs.declared.Codes.{Codes}
use Rattle.kind.specs.declared.Kind.{Kind}
use Rattle.kind.specs.declared.Kind.TheVariants.{Block, It, Cps, Setend, Coprocessor, Plain}
use Rattle.kind.specs.Kinds.{kind_of}
use Rattle.visitor.specs.Operands.{operand_refused}
use Rattle.lines.specs.Operands.{operand, four, missing, two_only}

-- the first of two refusals, if any
abbrev pub first_of : Option Refusal → Option Refusal → Option Refusal
first_of (Some f) g = Some f
first_of None g = g

-- the operand has a text
abbrev pub HasText : Operand → Type 0
HasText o = operand_refused 0 o ≡ None

-- a code is a number up to 15
abbrev pub code_refused : ℕ → Option Refusal
code_refused n = cond (nat_lt 15 n) (Some (refused_with 3 no_operand)) None

abbrev pub optional_refused : Option ℕ → Option Refusal
optional_refused None = None
optional_refused (Some n) = code_refused n

-- the numbers inside a coprocessor form's opcode
abbrev pub codes_refused : Codes → Option Refusal
codes_refused c = first_of (code_refused c.coprocessor) (first_of (optional_refused c.second) (optional_refused c.third))

-- a field is a number up to its largest
abbrev pub field_refused : ℕ → ℕ → ℕ → Option Refusal
field_refused place largest n = cond (nat_lt largest n) (Some (refused_with 5 place)) None

-- the operands before the first Nothing, from the left
abbrev pub reached_refused : ℕ → List Operand → Option Refusal
reached_refused place [] = None
reached_refused place (o ∷ os) = cond (missing o) None (first_of (operand_refused place o) (reached_refused (suc place) os))

-- the operands have not the cases that the opcode asks for
abbrev pub misshapen : Option Refusal
misshapen = Some (refused_with 4 no_operand)

abbrev pub block_refused : Operand → Operand → Bool → Option Refusal
block_refused (RegWBack base w) (RegList mask) only = cond only None misshapen
block_refused first second only = misshapen

abbrev pub it_refused : Operand → Operand → Option Refusal
it_refused (Imm32 c) (Imm32 m) = first_of (field_refused 0 14 c) (field_refused 1 15 m)
it_refused first second = misshapen

abbrev pub cps_refused : Operand → Operand → Option Refusal
cps_refused (Imm12 flags) mode = first_of (field_refused 0 7 flags) (reached_refused 1 (mode ∷ []))
cps_refused first second = misshapen

abbrev pub setend_refused : Operand → Option Refusal
setend_refused (Imm12 n) = None
setend_refused other = misshapen

abbrev pub refused_by : Kind → Instruction → Option Refusal
refused_by (Block user) i = block_refused (operand 0 i) (operand 1 i) (two_only i)
refused_by It i = it_refused (operand 0 i) (operand 1 i)
refused_by Cps i = cps_refused (operand 0 i) (operand 1 i)
refused_by Setend i = setend_refused (operand 0 i)
refused_by (Coprocessor c) i = first_of (codes_refused c) (reached_refused 0 (four i))
refused_by Plain i = reached_refused 0 (four i)

unfoldable pub refused : Instruction → Option Refusal
refused i = refused_by (kind_of i.opcode) i
