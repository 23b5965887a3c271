-- Inks, and which ink each cell of a text has. Assumes nothing.
use Rattle.std.specs.Prelude.{ℕ, List, [], ◌∷◌, map}
use Rattle.sink.specs.declared.sink.Edge.{Edge}
use Rattle.sink.specs.declared.sink.Edge.TheVariants.{Start, End}
use Rattle.sink.specs.declared.sink.Span.{Span}
use Rattle.sink.specs.declared.sink.Span.TheVariants.{Opcode, Register}
use Rattle.sink.specs.Items.{Item, byte, edge}
use Rattle.cells.specs.declared.cell.Cell.{Cell}
use Rattle.cells.specs.declared.cell.Ink.{Ink}
use Rattle.cells.specs.declared.cell.Ink.TheVariants.{Plain, Opcode as OpcodeInk, Register as RegisterInk}

abbrev pub ink_number : Ink → ℕ
ink_number Plain = 0
ink_number OpcodeInk = 1
ink_number RegisterInk = 2

-- the ink of a span's kind
abbrev pub ink_of : Span → Ink
ink_of Opcode = OpcodeInk
ink_of Register = RegisterInk

-- an end sets plain only if its kind is the ink
abbrev pub ended_ink : Ink → Span → Ink
ended_ink Plain s = Plain
ended_ink OpcodeInk Opcode = Plain
ended_ink OpcodeInk Register = OpcodeInk
ended_ink RegisterInk Opcode = RegisterInk
ended_ink RegisterInk Register = Plain

-- the ink behind an edge, by the ink before it: a start sets its kind
abbrev pub next_ink : Ink → Edge → Span → Ink
next_ink i Start s = ink_of s
next_ink i End s = ended_ink i s

abbrev pub cell_in : Ink → ℕ → Cell
cell_in i b = record { byte = b; ink = i }

-- bytes in one ink
abbrev pub painted : Ink → List ℕ → List Cell
painted i = map (cell_in i)

abbrev pub text_of : List Cell → List ℕ
text_of = map (λ c. c.byte)

-- the cells of a row of items, and the ink behind them, from the ink before them
abbrev pub inked : Ink → List Item → List Cell
inked i [] = []
inked i (byte b ∷ is) = cell_in i b ∷ inked i is
inked i (edge e s ∷ is) = inked (next_ink i e s) is

abbrev pub ink_behind : Ink → List Item → Ink
ink_behind i [] = i
ink_behind i (byte b ∷ is) = ink_behind i is
ink_behind i (edge e s ∷ is) = ink_behind (next_ink i e s) is
