use Rattle.std.proofs.Common.{ap}
use Rattle.sink.specs.Items.{text_items}
use Rattle.visitor.proofs.Pieces.{renamed}
use Rattle.writer.proofs.Choices.{comma}
use Rattle.writer.proofs.address.write_comma.Goals as goal

pub returns : goal.returns
returns g c = renamed (ap text_items (comma c.args.add)) c.write_either.ensures.printed
