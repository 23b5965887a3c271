use Rattle.std.proofs.Common.{refl}
use Rattle.cells.proofs.worked_inks_hold.Goals as goal

pub returns : goal.returns
returns c = record { worked = record { nested = refl; between_ends = refl; other_end = refl; other_start = refl } }
