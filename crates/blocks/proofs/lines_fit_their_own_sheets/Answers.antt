use Rattle.blocks.proofs.Sheets.{own_sheets}
use Rattle.blocks.proofs.lines_fit_their_own_sheets.Goals as goal

pub returns : goal.returns
returns c = record { own_sheets = own_sheets }
