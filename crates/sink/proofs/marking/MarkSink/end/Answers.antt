use Rattle.std.proofs.Common.{arith}
use Rattle.sink.proofs.Lents.{front_taken, front_length}
use Rattle.sink.proofs.marking.MarkSink.end.Goals as goal

pub returns-clause-text : goal.returns-clause-text
returns-clause-text c = front_taken c.args.self.buf.now c.args.self.len (omega arith)

pub returns-clause-marks : goal.returns-clause-marks
returns-clause-marks c = front_taken c.args.self.row.now c.args.self.count (omega arith)

pub returns-clause-value : goal.returns-clause-value
returns-clause-value c =
    let s = c.args.self in
    (front_length s.buf.now s.len (omega arith) s.within, front_length s.row.now s.count (omega arith) s.row_within)
