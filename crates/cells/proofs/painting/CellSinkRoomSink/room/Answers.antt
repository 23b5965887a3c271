use Rattle.std.proofs.Common.{◌-◌, length, sym, ap, ◌∙◌, arith}
use lib.ListN.{length-map}
use Rattle.sink.specs.Lent.{lent}
use Rattle.sink.proofs.Lents.{room_left}
use Rattle.cells.specs.declared.cell.Cell.{Cell}
use Rattle.cells.specs.CellSinks.{cells_of}
use Rattle.cells.proofs.painting.CellSinkRoomSink.room.Goals as goal

pub returns : goal.returns
returns c =
    let s = c.args.self.now in
    record { room = room_left s.cells.now s.len (omega arith) s.within ∙ ap (λ n. length (lent s.cells.now) - n) (sym (length-map (cells_of s) (λ (x : Cell). x.byte))) }
