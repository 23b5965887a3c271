use Rattle.std.proofs.Common.{ap, arith}
use Rattle.sink.specs.Meaning.{with_room}
use Rattle.sink.proofs.Lents.{lent_length}
use Rattle.cells.proofs.painting.CellSink.new.Goals as goal

pub returns-clause-empty : goal.returns-clause-empty
returns-clause-empty c = ap (λ n. with_room n 0) (lent_length c.args.cells.now (omega arith))
