use Rattle.opcode_notation.specs.Opcodes.{flow}
use Rattle.opcode_notation.proofs.words.flow_of.Goals as goal

pub returns : goal.returns
unfolding flow
returns c = c.row_of.ensures.value
