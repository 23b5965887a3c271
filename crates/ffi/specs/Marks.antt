-- Marks as numbers. Assumes nothing.
use Rattle.std.specs.Prelude.{ℕ, zero, suc, ◌+◌, ◌-◌, ◌*◌, ◌^◌, min, List, [], ◌∷◌, Option}
use Rattle.armv7.specs.declared.instruction.Instruction.{Instruction}
use Rattle.sink.specs.Items.{marks_from}
use Rattle.sink.specs.declared.sink.Edge.{Edge}
use Rattle.sink.specs.declared.sink.Edge.TheVariants.{Start, End}
use Rattle.sink.specs.declared.sink.Mark.{Mark}
use Rattle.sink.specs.declared.sink.Span.{Span}
use Rattle.sink.specs.declared.sink.Span.TheVariants.{Opcode, Register}
use Rattle.ffi.specs.Lines.{shown}

abbrev pub code_of_edge : Edge → ℕ
code_of_edge Start = 0
code_of_edge End = 2

abbrev pub code_of_span : Span → ℕ
code_of_span Opcode = 0
code_of_span Register = 1

-- four times its place, 2 more for an end and 1 more for a register, or the largest number of 64 bits
abbrev pub mark_code : Mark → ℕ
mark_code m = min (m.at * 4 + (code_of_edge m.edge + code_of_span m.span)) (2 ^ 64 - 1)

-- the numbers that so many places have room for
abbrev pub numbers_in : ℕ → List Mark → List ℕ
numbers_in n [] = []
numbers_in zero (m ∷ ms) = []
numbers_in (suc n) (m ∷ ms) = mark_code m ∷ numbers_in n ms

-- the numbers of an instruction's marks, in so many places, where its text has so many bytes
abbrev pub numbers_shown : ℕ → ℕ → Option Instruction → List ℕ
numbers_shown places n i = numbers_in places (marks_from 0 (shown n i))
