-- What the writing visitor does with an operand. Assumes nothing.
use Rattle.std.specs.Prelude.{◌≡◌, Result}
use Rattle.armv7.specs.declared.fault.Fault.{Fault}
use Rattle.armv7.specs.declared.operand.Operand.{Operand}
use Rattle.sink.specs.Meaning.{SinkOf}
use Rattle.visitor.specs.Operands.{operand_items, operand_refused}
use Rattle.visitor.specs.Visits.{PrintsUnless}
use Rattle.writer.specs.declared.displaying.DisplayingOperandVisitor.{DisplayingOperandVisitor}

-- it writes the operand's text to the sink that it refers to, and refers to the same one afterwards
pub record Written {S : Type 0} (sink : SinkOf S) (op : Operand) (before : DisplayingOperandVisitor S) (answer : Result (Unit {0}) Fault) (after : DisplayingOperandVisitor S) : Type 0 where
  pub text : PrintsUnless sink (operand_refused 0 op) (operand_items op) before.f.now answer after.f.now
  pub same : after.f.ghost_name ≡ before.f.ghost_name
