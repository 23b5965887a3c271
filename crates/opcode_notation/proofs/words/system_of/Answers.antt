use Rattle.opcode_notation.specs.Opcodes.{system}
use Rattle.opcode_notation.proofs.words.system_of.Goals as goal

pub returns : goal.returns
unfolding system
returns c = c.row_of.ensures.value
