use Rattle.opcode_notation.specs.Opcodes.{bits}
use Rattle.opcode_notation.proofs.words.bits_of.Goals as goal

pub returns : goal.returns
unfolding bits
returns c = c.row_of.ensures.value
