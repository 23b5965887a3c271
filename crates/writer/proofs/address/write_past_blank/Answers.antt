use Rattle.std.proofs.Common.{ap}
use Rattle.sink.specs.Items.{text_items}
use Rattle.visitor.proofs.Pieces.{renamed}
use Rattle.writer.proofs.Choices.{past_blank}
use Rattle.writer.proofs.address.write_past_blank.Goals as goal

pub returns : goal.returns
returns g c = renamed (ap text_items (past_blank c.args.add)) c.write_either.ensures.printed
