use Rattle.blocks.proofs.Pages.{pages_cut}
use Rattle.blocks.proofs.lines_are_cut_apart.Goals as goal

pub returns : goal.returns
returns c = record { cut_apart = pages_cut }
