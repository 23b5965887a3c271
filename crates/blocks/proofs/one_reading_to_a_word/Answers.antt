use Rattle.blocks.proofs.Words.{one_word}
use Rattle.blocks.proofs.one_reading_to_a_word.Goals as goal

pub returns : goal.returns
returns c = record { one_reading = one_word }
