use Rattle.opcode_notation.specs.Opcodes.{multiply}
use Rattle.opcode_notation.proofs.words.multiply_of.Goals as goal

pub returns : goal.returns
unfolding multiply
returns c = c.row_of.ensures.value
