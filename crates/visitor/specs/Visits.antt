-- What is done with an operand, or an instruction, that may be refused. Assumes nothing.
use Rattle.std.specs.Prelude.{◌≡◌, List, Some, None, Option, Result}
use Rattle.armv7.specs.declared.fault.Fault.{Fault}
use Rattle.armv7.specs.Faults.{Refusal}
use Rattle.sink.specs.Items.{Item}
use Rattle.sink.specs.Meaning.{SinkOf}
use Rattle.sink.specs.Outcome.{outcome}
use Rattle.sink.specs.Printed.{Printed}

-- a refusal before anything was written
pub record Refused {S : Type 0} (why : Refusal) (before : S) (answer : Option Refusal) (after : S) : Type 0 where
  pub told : answer ≡ Some why
  pub still : after ≡ before

-- a sink was handed the items, unless there is a reason to refuse them
abbrev pub PrintedUnless : {S : Type 0} → SinkOf S → Option Refusal → List Item → S → Option Refusal → S → Type 0
PrintedUnless sink None is before answer after = Printed sink is before answer after
PrintedUnless sink (Some why) is before answer after = Refused why before answer after

-- a call that hands the items to the sink, unless there is a reason to refuse them
abbrev pub PrintsUnless : {S A : Type 0} → SinkOf S → Option Refusal → List Item → S → Result A Fault → S → Type 0
PrintsUnless sink why is before answer after = PrintedUnless sink why is before (outcome answer) after
