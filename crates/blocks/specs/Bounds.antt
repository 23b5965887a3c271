-- What every line keeps to: its length, its marks, no line break in it, and spans that are closed. Assumes nothing.
use Rattle.std.specs.Prelude.{◌≡◌, ℕ, ◌≤◌, List, [], ◌∷◌, ◌++◌, length, None, ◌≢◌}
use Rattle.std.specs.List.{AllByRecursion}
use Rattle.armv7.specs.declared.instruction.Instruction.{Instruction}
use Rattle.sink.specs.declared.sink.Edge.TheVariants.{Start, End}
use Rattle.sink.specs.declared.sink.Span.{Span}
use Rattle.sink.specs.Items.{Item, byte, edge, bytes, marks_from}
use Rattle.lines.specs.Admission.{refused}
use Rattle.lines.specs.Lines.{line}

-- each span that is opened is closed again in the row, the last one first
pub data Nested : List Item → Type 0 where
  done : Nested []
  byte_then : (b : ℕ) {rest : List Item} → Nested rest → Nested (byte b ∷ rest)
  span_then : (k : Span) {inside rest : List Item} → Nested inside → Nested rest → Nested (edge Start k ∷ (inside ++ edge End k ∷ rest))

-- no byte ends a line
abbrev pub OneLine : List ℕ → Type 0
OneLine = AllByRecursion (λ b. b ≢ 10)

pub record Bounded (size_limit mark_limit : ℕ) (row : List Item) : Type 0 where
  pub size : length (bytes row) ≤ size_limit
  pub marks : length (marks_from 0 row) ≤ mark_limit
  pub one_line : OneLine (bytes row)
  pub nested : Nested row

abbrev pub BoundedLines : Type 0
BoundedLines = (i : Instruction) → refused i ≡ None → Bounded 285 130 (line i)
