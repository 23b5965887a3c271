use Rattle.blocks.proofs.Bounds.{lines_bounded}
use Rattle.blocks.proofs.lines_are_bounded.Goals as goal

pub returns : goal.returns
returns c = record { bounded = lines_bounded }
