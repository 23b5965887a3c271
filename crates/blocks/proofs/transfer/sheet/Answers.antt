use Rattle.std.proofs.Common.{rules}
use Rattle.blocks.specs.Sheets.{sheet_of}
use Rattle.blocks.proofs.Sheets.{fits_only}
use Rattle.blocks.proofs.transfer.sheet.Goals as goal

pub returns-in-Some-clause-fits : goal.returns-in-Some-clause-fits
unfolding sheet_of
returns-in-Some-clause-fits c = fits_only c.args.instruction.now _ (search rules)

pub returns-in-None-clause-fits : goal.returns-in-None-clause-fits
unfolding sheet_of
returns-in-None-clause-fits c = fits_only c.args.instruction.now _ (search rules)
