use Rattle.std.proofs.Common.{length, take, sym, refl, ap, ◌∙◌, arith}
use Rattle.sink.specs.Meaning.{room}
use Rattle.sink.specs.Outcome.{full_below}
use Rattle.cells.specs.CellSinks.{cell_meaning}
use Rattle.cells.proofs.Paintings.{ink_behind_text, paint_room, paint_inks, paint_meaning}
use Rattle.cells.proofs.painting.CellSinkDisplaySink.write.Goals as goal

pub returns : goal.returns
returns c =
    let told = c.paint.ensures in
    let s = c.args.self.now in
    let p = c.args.piece.now in
    record {
      appended = record {
        held = paint_meaning s _ _ p (omega arith) told.rest.size told.text;
        told = told.answer ∙ ap (λ n. full_below n (length p)) (paint_room s _ _ p (omega arith) told.rest.size told.text);
        rest = record {
          memory = refl;
          filled = told.rest;
          inks = paint_inks s _ _ p (omega arith) told.rest.size told.text;
          ink = sym (ink_behind_text s.ink (take (room (cell_meaning s)) p));
        };
      };
    }
