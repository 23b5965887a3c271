use Rattle.record.specs.Instructions.{conditions}
use Rattle.record.proofs.instruction.read_condition.Goals as goal

pub returns : goal.returns
unfolding conditions
returns c = c.choose.ensures.reads
