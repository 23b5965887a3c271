-- What is left of a line at a cursor, and where a token stands. Assumes nothing.
use Rattle.std.specs.Prelude.{◌≡◌, ℕ, ◌+◌, ◌-◌, ◌<◌, ◌≤◌, false, List, length, take, drop, slice_index}
use Rattle.notation.specs.declared.cursor.Cursor.{Cursor}
use Rattle.notation.specs.Tokens.{blank, tokens}

abbrev pub ahead : Cursor → List (List ℕ)
ahead c = tokens (drop c.at c.line.now)

-- a token stands in a line at a column, which counts from 1; no blank stands there
pub record Stands (line : List ℕ) (column : ℕ) (text : List ℕ) : Type 0 where
  pub counts : 0 < column
  pub within : column + length text ≤ length line + 1
  pub reads : text ≡ take (length text) (drop (column - 1) line)
  pub opens : column ≤ length line → blank (slice_index line (column - 1)) ≡ false
