use Rattle.std.proofs.Common.{arith}
use Rattle.sink.proofs.Lents.{front_taken}
use Rattle.cells.proofs.painting.CellSink.cells.Goals as goal

pub returns : goal.returns
returns c = record { value = front_taken c.args.self.now.cells.now c.args.self.now.len (omega arith) }
