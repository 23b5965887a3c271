use Rattle.std.proofs.Common.{sym, ◌∙◌, arith}
use lib.ListN.{length-map}
use Rattle.sink.proofs.Lents.{front_taken, front_length}
use Rattle.cells.specs.declared.cell.Cell.{Cell}
use Rattle.cells.specs.CellSinks.{cells_of}
use Rattle.cells.proofs.painting.CellSink.end.Goals as goal

pub returns-clause-text : goal.returns-clause-text
returns-clause-text c = front_taken c.args.self.cells.now c.args.self.len (omega arith)

pub returns-clause-value : goal.returns-clause-value
returns-clause-value c =
    let s = c.args.self in
    front_length s.cells.now s.len (omega arith) s.within ∙ sym (length-map (cells_of s) (λ (x : Cell). x.byte))
