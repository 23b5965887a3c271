-- What a sink holds after it was handed a row of items. Assumes nothing.
use Rattle.std.specs.Prelude.{◌≡◌, List, ◌++◌, length, take, Option, Result}
use Rattle.armv7.specs.declared.fault.Fault.{Fault}
use Rattle.armv7.specs.Faults.{Refusal}
use Rattle.sink.specs.Items.{Item, bytes, marks_from, fitting}
use Rattle.sink.specs.Meaning.{Meaning, SinkOf, room}
use Rattle.sink.specs.Outcome.{outcome, full_below}

-- all of the items were taken: their bytes stand behind the text, and their marks, up to the limit, behind the marks
abbrev pub taken : List Item → Meaning → Meaning
taken is m = record {
  text = m.text ++ bytes is;
  limit = m.limit;
  marks = take m.mark_limit (m.marks ++ marks_from (length m.text) is);
  mark_limit = m.mark_limit;
}

-- what of the items a sink takes: those before the first byte that finds no room
abbrev pub fitting_in : Meaning → List Item → List Item
fitting_in m is = fitting (room m) is

-- what a sink holds once it was handed the items
abbrev pub handed : List Item → Meaning → Meaning
handed is m = taken (fitting_in m is) m

-- the items were handed to the sink, which refused them with 9 exactly where their bytes are more than the room
pub record Printed {S : Type 0} (sink : SinkOf S) (is : List Item) (before : S) (answer : Option Refusal) (after : S) : Type 0 where
  pub held : sink.meaning after ≡ handed is (sink.meaning before)
  pub told : answer ≡ full_below (room (sink.meaning before)) (length (bytes is))
  pub rest : sink.kept (fitting_in (sink.meaning before) is) before after

-- a call that hands the items to the sink
abbrev pub Prints : {S A : Type 0} → SinkOf S → List Item → S → Result A Fault → S → Type 0
Prints sink is before answer after = Printed sink is before (outcome answer) after
