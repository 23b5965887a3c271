use Rattle.manual.proofs.Plains.{plain_lines}
use Rattle.manual.proofs.manual_lines_are_plain.Goals as goal

pub returns : goal.returns
returns c = record { plain = plain_lines }
