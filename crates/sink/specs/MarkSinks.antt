-- A sink on lent bytes and a lent row of marks. Assumes nothing.
use Rattle.std.specs.Prelude.{◌≡◌, length, take, refl}
use Rattle.std.proofs.Common.{◌∙◌}
use Rattle.sink.specs.declared.marking.MarkSink.{MarkSink}
use Rattle.sink.specs.Lent.{lent, Filled, lent_within, lent_bits, filled_none, filled_twice}
use Rattle.sink.specs.Meaning.{Meaning, Laws, SinkOf}

abbrev pub mark_meaning : MarkSink → Meaning
mark_meaning s = record {
  text = take s.len (lent s.buf.now);
  limit = length (lent s.buf.now);
  marks = take s.count (lent s.row.now);
  mark_limit = length (lent s.row.now);
}

-- the memory is the same, and past the text and past the marks it stays as it was
pub record MarkKept (s t : MarkSink) : Type 0 where
  pub memory : t.buf.ghost_name ≡ s.buf.ghost_name
  pub filled : Filled s.buf.now s.len t.buf.now t.len
  pub row : t.row.ghost_name ≡ s.row.ghost_name
  pub row_filled : Filled s.row.now s.count t.row.now t.count

pub mark_laws : Laws mark_meaning (λ is. MarkKept)
mark_laws = record {
  sound = λ s. record {
    text_within = lent_within s.len s.buf.now;
    limit_bits = lent_bits s.buf.now;
    marks_within = lent_within s.count s.row.now;
    mark_limit_bits = lent_bits s.row.now;
  };
  stays = λ s. record { memory = refl; filled = filled_none _ _; row = refl; row_filled = filled_none _ _ };
  adds_up = λ a b s t u f g. record {
    memory = g.memory ∙ f.memory;
    filled = filled_twice f.filled g.filled;
    row = g.row ∙ f.row;
    row_filled = filled_twice f.row_filled g.row_filled;
  };
}

-- it keeps the same of every row of items
abbrev pub mark_sink : SinkOf MarkSink
mark_sink = record { meaning = mark_meaning; kept = λ is. MarkKept; laws = mark_laws }
