-- What a spelling gives each instruction: its refusal, or its line and the sheet that this shows. Assumes nothing.
use Rattle.std.specs.Prelude.{◌≡◌, ◌↔◌, List, [], Some, None, Option}
use Rattle.armv7.specs.declared.instruction.Instruction.{Instruction}
use Rattle.armv7.specs.Faults.{Refusal}
use Rattle.sink.specs.Items.{Item, bytes}
use Rattle.lines.specs.Admission.{refused as refused_instruction}
use Rattle.lines.specs.Lines.{line as instruction_line}
use Rattle.blocks.specs.declared.fields.Sheet.{Sheet}
use Rattle.blocks.specs.Bounds.{Bounded}
use Rattle.blocks.specs.Grammar.{Fits}
use Rattle.blocks.specs.Sheets.{sheet_of}
use Rattle.armv7.specs.declared.call.Call.{Call}
use Rattle.armv7.specs.declared.call.Call.TheVariants.{Print, Gap}

pub record Spelling : Type 0 where
  pub refused : Instruction → Option Refusal
  pub line : Instruction → List Item
  pub sheet : Instruction → Option Sheet

-- a line fits the block grammar exactly with the sheet that is given
abbrev pub FitsExactly : List Item → Option Sheet → Type 0
FitsExactly is o = (t : Sheet) → Fits (bytes is) t ↔ (o ≡ Some t)

-- what a spelling keeps to
pub record Lawful (s : Spelling) : Type 0 where
  pub bounded : (i : Instruction) → s.refused i ≡ None → Bounded 285 130 (s.line i)
  pub fits : (i : Instruction) → s.refused i ≡ None → FitsExactly (s.line i) (s.sheet i)

-- the printer's own
abbrev pub own : Spelling
own = record { refused = refused_instruction; line = instruction_line; sheet = sheet_of }

-- a gap is never refused for itself, and its line is empty
abbrev pub call_refused : Spelling → Call → Option Refusal
call_refused s (Print i) = s.refused i
call_refused s Gap = None

abbrev pub call_line : Spelling → Call → List Item
call_line s (Print i) = s.line i
call_line s Gap = []

abbrev pub call_sheet : Spelling → Call → Option Sheet
call_sheet s (Print i) = s.sheet i
call_sheet s Gap = None
