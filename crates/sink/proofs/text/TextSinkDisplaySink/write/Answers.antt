use Rattle.std.proofs.Common.{ℕ, List, [], length, refl, ap, ◌∙◌, ap₂, arith}
use Rattle.sink.specs.Meaning.{Meaning}
use Rattle.sink.specs.Outcome.{full_below}
use Rattle.sink.proofs.Lents.{write_limit, write_text, room_left}
use Rattle.sink.proofs.text.TextSinkDisplaySink.write.Goals as goal

holding : List ℕ → ℕ → Meaning
holding t l = record { text = t; limit = l; marks = []; mark_limit = 0 }

pub returns : goal.returns
unfolding holding
returns c =
    let s = c.args.self.now in
    let p = c.args.piece.now in
    let told = c.append.ensures in
    record {
      appended = record {
        held = ap₂ holding (write_text s.buf.now _ p s.len _ (omega arith) s.within told.rest.size told.text) (write_limit s.buf.now _ p s.len c.append.new.used (omega arith) s.within told.rest.size);
        told = told.answer ∙ ap (λ n. full_below n (length p)) (room_left s.buf.now s.len (omega arith) s.within);
        rest = record { memory = refl; filled = told.rest };
      };
    }
