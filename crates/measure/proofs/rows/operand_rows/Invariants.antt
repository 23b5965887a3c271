use Rattle.measure.proofs.Reached.{RowsTo}
use Rattle.measure.proofs.rows.operand_rows.Given as goal

abbrev pub invariant-loop-index : goal.invariant-loop-index
invariant-loop-index l = RowsTo l.reached.operands.now l.index l.size
