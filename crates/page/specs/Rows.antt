-- A line on a page: it is written with a line break behind it, or not at all. Assumes nothing.
use Rattle.std.specs.Prelude.{ℕ, suc, cond, List, [], ◌∷◌, ◌++◌, length, Some, None, Option, Result, nat_lt}
use Rattle.armv7.specs.declared.fault.Fault.{Fault}
use Rattle.armv7.specs.Faults.{Refusal, refused_with, no_operand}
use Rattle.sink.specs.Items.{Item, byte, bytes}
use Rattle.sink.specs.Meaning.{room, SinkOf}
use Rattle.visitor.specs.Visits.{PrintsUnless}

-- a refusal of its own comes first; else the page is full where line and line break are longer than the room
abbrev pub row_refused : Option Refusal → ℕ → ℕ → Option Refusal
row_refused (Some why) room size = Some why
row_refused None room size = cond (nat_lt room (suc size)) (Some (refused_with 10 no_operand)) None

-- a line with its line break
abbrev pub row : List Item → List Item
row is = is ++ byte 10 ∷ []

-- a call that hands a line with its line break to the sink, unless it is refused
abbrev pub PrintsRow : {S A : Type 0} → SinkOf S → Option Refusal → List Item → S → Result A Fault → S → Type 0
PrintsRow sink why is before answer after =
    PrintsUnless sink (row_refused why (room (sink.meaning before)) (length (bytes is))) (row is) before answer after
