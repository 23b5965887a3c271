-- The line of an instruction, by the form that it was admitted as. Assumes nothing.
use Rattle.std.specs.Prelude.{◌≡◌, ℕ, List, [], ◌∷◌, ◌++◌, map, Some, None, Option, Result, IfOk}
use Rattle.armv7.specs.Conditions.{condition_name, condition_number}
use Rattle.armv7.specs.declared.fault.Fault.{Fault}
use Rattle.armv7.specs.declared.instruction.Instruction.{Instruction}
use Rattle.kind.specs.declared.Kind.{Kind}
use Rattle.kind.specs.Kinds.{optional}
use Rattle.opcode.specs.Names.{name_of}
use Rattle.sink.specs.Items.{Item, text_items}
use Rattle.sink.specs.Outcome.{outcome}
use Rattle.visitor.specs.Operands.{operand_items}
use Rattle.lines.specs.declared.form.ItBlock.{ItBlock}
use Rattle.lines.specs.declared.form.Form.{Form}
use Rattle.lines.specs.declared.form.Form.TheVariants.{Plain, Coprocessor, Block, Stack, It, Cps, Setend}
use Rattle.lines.specs.declared.suffix.Suffix.{Suffix}
use Rattle.lines.specs.Admission.{refused_by}
use Rattle.lines.specs.Lines.{Parts, suffix, suffix_of, suffixed, stack_name, stack_row, block_rows, it_letters, flag_row, mode_rows, setend_text, code_row, code_rows, parts_by}
use Rattle.lines.specs.Moved.{Moved, stacked, transferred, moved_by}
use Rattle.lines.specs.Operands.{operand}

abbrev pub suffix_in : Instruction → Suffix
suffix_in i = record { s = i.s; condition = i.condition; w = i.thumb_w }

abbrev pub suffix_text : Suffix → List ℕ
suffix_text x = suffix_of x.s x.condition x.w

-- the letters of an IT block behind the first
abbrev pub block_letters : ItBlock → List ℕ
block_letters b = it_letters (condition_number b.condition) b.mask

-- the word of a line: the name that is shown, and what stands behind it
abbrev pub word_of : Form → Instruction → List ℕ
word_of (Coprocessor c os) i = name_of i.opcode ++ suffixed c.suffixes i
word_of (Stack form) i = stack_name form.load ++ suffix i
word_of (It b) i = name_of i.opcode ++ (suffix i ++ block_letters b)
word_of other i = name_of i.opcode ++ suffix i

abbrev pub rows_of : Form → List (List Item)
rows_of (Plain os) = map operand_items os.operands.now
rows_of (Coprocessor c os) = code_rows (c.coprocessor ∷ optional c.second) ++ (map operand_items os.operands.now ++ map code_row (optional c.third))
rows_of (Block b) = block_rows b
rows_of (Stack form) = stack_row form.moved ∷ []
rows_of (It b) = text_items (condition_name b.condition) ∷ []
rows_of (Cps flags mode) = flag_row flags ++ mode_rows mode
rows_of (Setend n) = text_items (setend_text n) ∷ []

abbrev pub parts_of : Form → Instruction → Parts
parts_of f i = record { word = word_of f i; rows = rows_of f }

abbrev pub moved_in : Form → Option Moved
moved_in (Block b) = Some (transferred b)
moved_in (Stack form) = Some (stacked form)
moved_in other = None

-- an instruction of this kind under its own name is refused as it should be, or told what it shows
pub record AdmittedAs (k : Kind) (i : Instruction) (answer : Result Form Fault) : Type 0 where
  pub refusal : outcome answer ≡ refused_by k i
  pub shown : IfOk answer (λ f. parts_of f i ≡ parts_by (moved_by None k (operand 0 i) (operand 1 i)) k i)
  pub moves : IfOk answer (λ f. moved_in f ≡ moved_by None k (operand 0 i) (operand 1 i))
