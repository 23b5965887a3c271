use Rattle.std.proofs.Common.{arith}
use Rattle.sink.proofs.Lents.{front_taken}
use Rattle.sink.proofs.marking.MarkSink.text.Goals as goal

pub returns : goal.returns
returns c = record { value = front_taken c.args.self.now.buf.now c.args.self.now.len (omega arith) }
