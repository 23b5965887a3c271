-- The manual line: its items, and which instructions have none. Assumes nothing.
use Rattle.std.specs.Prelude.{false, List, [], ◌∷◌, ◌++◌, Some, None, codes, Option}
use Rattle.armv7.specs.declared.instruction.Instruction.{Instruction}
use Rattle.armv7.specs.Faults.{Refusal, refused_with, no_operand}
use Rattle.opcode.specs.declared.Opcode.{Opcode}
use Rattle.opcode.specs.declared.Opcode.TheVariants.{LDM, STM}
use Rattle.sink.specs.Items.{Item, text_items}
use Rattle.visitor.specs.Texts.{reg_items, list_items}
use Rattle.lines.specs.declared.alias.StackForm.{StackForm}
use Rattle.lines.specs.declared.alias.Stacked.{Stacked}
use Rattle.lines.specs.declared.alias.Stacked.TheVariants.{List as ListOf, One}
use Rattle.lines.specs.Admission.{first_of, refused}
use Rattle.lines.specs.Lines.{Parts, suffix, stack_name, moved_parts, line_of}
use Rattle.lines.specs.Moved.{Moved, stacked, transferred, moved}

-- without the opcode's own write-back flag
abbrev pub without_flag : Opcode → Opcode
without_flag (LDM add pre wback user) = LDM add pre false user
without_flag (STM add pre wback user) = STM add pre false user
without_flag other = other

-- without s and that flag, neither of which is shown
abbrev pub bare : Instruction → Instruction
bare i = record i { opcode = without_flag i.opcode; s = false }

-- the list of a pop or a push, or its register, which lies in one span
abbrev pub stack_row : Stacked → List Item
stack_row (ListOf mask) = list_items mask
stack_row (One r) = text_items (codes "{") ++ (reg_items r ++ text_items (codes "}"))

abbrev pub stack_parts : StackForm → Instruction → Parts
stack_parts form i = record { word = stack_name form.load ++ suffix i; rows = stack_row form.moved ∷ [] }

-- any other block transfer is shown as it is printed
abbrev pub manual_parts : Moved → Instruction → Parts
manual_parts (stacked form) i = stack_parts form i
manual_parts (transferred b) i = moved_parts (transferred b) i

-- an instruction that moves nothing of this kind has no manual form
abbrev pub no_form : Option Moved → Option Refusal
no_form None = Some (refused_with 11 no_operand)
no_form (Some m) = None

abbrev pub line_if : Option Moved → Instruction → List Item
line_if None i = []
line_if (Some m) i = line_of (manual_parts m i)

unfoldable pub manual_refused : Instruction → Option Refusal
manual_refused i = first_of (refused i) (no_form (moved (bare i)))

unfoldable pub manual_line : Instruction → List Item
manual_line i = line_if (moved (bare i)) (bare i)
