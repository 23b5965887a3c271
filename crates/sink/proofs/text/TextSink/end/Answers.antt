use Rattle.std.proofs.Common.{arith}
use Rattle.sink.proofs.Lents.{front_taken, front_length}
use Rattle.sink.proofs.text.TextSink.end.Goals as goal

pub returns-clause-text : goal.returns-clause-text
returns-clause-text c = front_taken c.args.self.buf.now c.args.self.len (omega arith)

pub returns-clause-value : goal.returns-clause-value
returns-clause-value c = front_length c.args.self.buf.now c.args.self.len (omega arith) c.args.self.within
