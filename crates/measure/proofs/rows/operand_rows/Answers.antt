use Rattle.measure.proofs.Reached.{more}
use Rattle.measure.proofs.rows.operand_rows.Goals as goal

pub loop-index-preserved : goal.loop-index-preserved
loop-index-preserved c = let loop = c.loop-index in let one = c.operand_size in more c.args.reached.operands.now loop.index loop.size one.result c.loop-index-test.true loop.invariant one.ensures.value one.ensures.bound
