-- The ink of every line, and what a sink of cells holds once a line was printed to it. Assumes nothing.
use Rattle.std.specs.Prelude.{◌≡◌, ℕ, ◌≢◌, List, ◌++◌, take, None, Some}
use Rattle.std.specs.List.{AllByRecursion}
use Rattle.armv7.specs.declared.instruction.Instruction.{Instruction}
use Rattle.armv7.specs.Faults.{Refusal}
use Rattle.sink.specs.Items.{Item, bytes}
use Rattle.sink.specs.Meaning.{room}
use Rattle.sink.specs.Printed.{Printed}
use Rattle.visitor.specs.Texts.{spanned}
use Rattle.lines.specs.Admission.{refused}
use Rattle.lines.specs.Lines.{parts, behind_word, line}
use Rattle.cells.specs.declared.cell.Cell.{Cell}
use Rattle.cells.specs.declared.cell.Ink.TheVariants.{Plain, Opcode as OpcodeInk, Register as RegisterInk}
use Rattle.cells.specs.declared.painting.CellSink.{CellSink}
use Rattle.cells.specs.CellSinks.{cells_of, cell_meaning, cell_sink}
use Rattle.cells.specs.Inks.{painted, text_of, inked, ink_behind}

-- the cells of a line from plain ink on, and those of its part behind the word, by the rule on inks
abbrev pub line_cells : Instruction → List Cell
line_cells i = inked Plain (line i)

abbrev pub cells_behind_word : Instruction → List Cell
cells_behind_word i = inked Plain (behind_word (parts i).rows)

-- They have the bytes of the line. Its word is in the opcode's ink, no cell behind the word is, and the ink behind all is plain.
pub record InkedLine (i : Instruction) : Type 0 where
  pub bytes : text_of (line_cells i) ≡ bytes (line i)
  pub word : line_cells i ≡ painted OpcodeInk (parts i).word ++ cells_behind_word i
  pub no_opcode_behind : AllByRecursion (λ c. c.ink ≢ OpcodeInk) (cells_behind_word i)
  pub plain_again : ink_behind Plain (line i) ≡ Plain

-- all of its cells came behind those of the sink
pub record InkedWhole (i : Instruction) (s t : CellSink) : Type 0 where
  pub cells : cells_of t ≡ cells_of s ++ line_cells i
  pub plain_again : t.ink ≡ Plain

-- as many of its cells came behind those of the sink as there was room for
abbrev pub InkedPart : Instruction → CellSink → CellSink → Type 0
InkedPart i s t = cells_of t ≡ cells_of s ++ take (room (cell_meaning s)) (line_cells i)

-- of every line that is printed, and of every sink of plain ink that it was printed to, whole or in part; and of a name in a register
-- span, wherever it stands in plain ink
pub record LinesAreInked : Type 0 where
  pub inks : (i : Instruction) → refused i ≡ None → InkedLine i
  pub names : (name : List ℕ) (behind : List Item) → inked Plain (spanned name ++ behind) ≡ painted RegisterInk name ++ inked Plain behind
  pub whole : (i : Instruction) → refused i ≡ None → (s t : CellSink) → s.ink ≡ Plain → Printed cell_sink (line i) s None t → InkedWhole i s t
  pub part : (i : Instruction) → refused i ≡ None → (s t : CellSink) → s.ink ≡ Plain → (f : Refusal) → Printed cell_sink (line i) s (Some f) t → InkedPart i s t
