use Rattle.opcode_notation.specs.Opcodes.{forms}
use Rattle.opcode_notation.proofs.words.form_of.Goals as goal

pub returns : goal.returns
unfolding forms
returns c = c.row_of.ensures.value
