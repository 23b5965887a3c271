use Rattle.std.proofs.Common.{ap₂, arith}
use Rattle.sink.specs.Meaning.{with_room}
use Rattle.sink.proofs.Lents.{lent_length}
use Rattle.sink.proofs.marking.MarkSink.new.Goals as goal

pub returns-clause-empty : goal.returns-clause-empty
returns-clause-empty c = ap₂ with_room (lent_length c.args.buf.now (omega arith)) (lent_length c.args.row.now (omega arith))
