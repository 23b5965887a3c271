use Rattle.blocks.proofs.OneSheet.{one_sheet}
use Rattle.blocks.proofs.one_sheet_to_a_line.Goals as goal

pub returns : goal.returns
returns c = record { one_sheet = one_sheet }
