-- What the measuring visitor answers. Assumes nothing.
use Rattle.std.specs.Prelude.{◌≡◌, ℕ, length, IfOk, Result}
use Rattle.armv7.specs.declared.fault.Fault.{Fault}
use Rattle.armv7.specs.declared.operand.Operand.{Operand}
use Rattle.measurer.specs.declared.measuring.Measurer.{Measurer}
use Rattle.sink.specs.Items.{bytes}
use Rattle.sink.specs.Outcome.{outcome}
use Rattle.visitor.specs.Operands.{operand_items, operand_refused}

-- the answer is how many bytes the operand's text has
pub record Measured (op : Operand) (answer : Result ℕ Fault) : Type 0 where
  pub told : outcome answer ≡ operand_refused 0 op
  pub size : IfOk answer (λ n. n ≡ length (bytes (operand_items op)))

-- a visit measures the operand, and the visitor stays as it was
pub record Measures (op : Operand) (before : Measurer) (answer : Result ℕ Fault) (after : Measurer) : Type 0 where
  pub measured : Measured op answer
  pub stays : after ≡ before
