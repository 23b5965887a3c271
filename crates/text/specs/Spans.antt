-- The calls that write what stands in a span. Assumes nothing.
use Rattle.std.specs.Prelude.{List, Result}
use Rattle.std.specs.Borrow.{MutBor}
use Rattle.armv7.specs.declared.fault.Fault.{Fault}
use Rattle.sink.specs.Items.{Item}
use Rattle.sink.specs.Meaning.{SinkOf}
use Rattle.sink.specs.Printed.{Prints}

-- each call, which is lent a sink, hands it the items
abbrev pub Writes : {S : Type 0} → SinkOf S → (MutBor S → Result (Unit {0}) Fault → MutBor S → Type 0) → List Item → Type 0
Writes {S} sink call is = (s : MutBor S) (r : Result (Unit {0}) Fault) (t : MutBor S) → call s r t → Prints sink is s.now r t.now
