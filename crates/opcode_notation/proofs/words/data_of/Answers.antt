use Rattle.opcode_notation.specs.Opcodes.{data_words}
use Rattle.opcode_notation.proofs.words.data_of.Goals as goal

pub returns : goal.returns
unfolding data_words
returns c = c.row_of.ensures.value
