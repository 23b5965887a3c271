use Rattle.opcode_notation.specs.Opcodes.{memory}
use Rattle.opcode_notation.proofs.words.memory_of.Goals as goal

pub returns : goal.returns
unfolding memory
returns c = c.row_of.ensures.value
