use Rattle.opcode_notation.specs.Opcodes.{parallel}
use Rattle.opcode_notation.proofs.words.parallel_of.Goals as goal

pub returns : goal.returns
unfolding parallel
returns c = c.row_of.ensures.value
