use Rattle.std.proofs.Common.{ap}
use Rattle.sink.specs.Items.{text_items}
use Rattle.visitor.proofs.Pieces.{renamed}
use Rattle.writer.proofs.Choices.{close}
use Rattle.writer.proofs.address.write_close.Goals as goal

pub returns : goal.returns
returns g c = renamed (ap text_items (close c.args.wback)) c.write_either.ensures.printed
