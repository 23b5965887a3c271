use Rattle.operand_notation.specs.Operands.{names}
use Rattle.operand_notation.proofs.operand.read_name.Goals as goal

pub returns : goal.returns
unfolding names
returns c = c.choose.ensures.reads
