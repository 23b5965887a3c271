use Rattle.std.proofs.Common.{ℕ, List, [], length, take, drop, sym, ap, ◌∙◌, ap₂, append-nil, arith}
use Rattle.sink.specs.Lent.{lent}
use Rattle.sink.specs.Meaning.{Meaning}
use Rattle.cells.specs.declared.cell.Cell.{Cell}
use Rattle.cells.specs.CellSinks.{cells_of}
use Rattle.cells.specs.Inks.{text_of}
use Rattle.cells.proofs.painting.CellSink.pass.Goals as goal

-- the meaning of a sink on these cells, of which the first n are in use
holding : List Cell → ℕ → Meaning
holding xs n = record { text = text_of (take n (lent xs)); limit = length (lent xs); marks = []; mark_limit = 0 }

pub returns : goal.returns
unfolding holding
returns c =
    let s = c.args.self.now in
    let n = c.turn.new.self.len in
    let told = c.turn.ensures in
    let same = told.cells in
    record {
      marked = record {
        held = ap₂ (λ x k. holding x.now k) same.0 same.1;
        rest = record {
          memory = ap (λ x. x.ghost_name) same.0;
          filled = record { grows = omega (arith, same.1); size = ap (λ x. length x.now) same.0; past = ap (λ x. drop n x.now) same.0 };
          inks = ap₂ (λ x k. take k (lent x.now)) same.0 same.1 ∙ sym (append-nil (cells_of s));
          ink = told.ink;
        };
      };
    }
