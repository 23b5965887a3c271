use Rattle.std.proofs.Common.{ℕ, cond, ltb, List, [], ◌∷◌, ◌++◌, length, refl, ap, ◌∙◌, ap₂, arith}
use Rattle.sink.specs.declared.sink.Mark.{Mark}
use Rattle.sink.specs.Lent.{lent_within, filled_none}
use Rattle.sink.specs.Meaning.{Meaning}
use Rattle.sink.specs.MarkSinks.{mark_meaning}
use Rattle.sink.proofs.Lents.{write_limit, write_text, one_more, front_length}
use Rattle.sink.proofs.marking.MarkSink.mark.Goals as goal

-- a sink's meaning at other marks and another limit of them
holding : Meaning → List Mark → ℕ → Meaning
holding m ms l = record { text = m.text; limit = m.limit; marks = ms; mark_limit = l }

pub returns : goal.returns
unfolding holding
returns c =
    let s = c.args.self.now in
    let told = c.push.ensures in
    let mark : ℕ → Mark = λ n. record { edge = c.args.edge; span = c.args.span; at = n } in
    let marks = (mark_meaning s).marks in
    let limit = (mark_meaning s).mark_limit in
    record {
      marked = record {
        held = ap₂ (holding (mark_meaning s))
            (write_text s.row.now _ (mark s.len ∷ []) s.count _ (omega arith) s.row_within told.size told.text
            ∙ one_more _ _ _ (lent_within s.count s.row.now)
            ∙ ap (λ n. cond (ltb (length marks) limit) (marks ++ mark n ∷ []) marks) (front_length s.buf.now s.len (omega arith) s.within))
            (write_limit s.row.now _ (mark s.len ∷ []) s.count c.push.new.used (omega arith) s.row_within told.size);
        rest = record { memory = refl; filled = filled_none _ _; row = refl; row_filled = told.rest };
      };
    }
