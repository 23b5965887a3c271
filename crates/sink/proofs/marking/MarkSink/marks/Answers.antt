use Rattle.std.proofs.Common.{arith}
use Rattle.sink.proofs.Lents.{front_taken}
use Rattle.sink.proofs.marking.MarkSink.marks.Goals as goal

pub returns : goal.returns
returns c = record { value = front_taken c.args.self.now.row.now c.args.self.now.count (omega arith) }
