-- A sink on lent bytes: they hold its text, and it has no marks. Assumes nothing.
use Rattle.std.specs.Prelude.{◌≡◌, [], length, take, refl}
use Rattle.std.proofs.Common.{◌∙◌, arith}
use Rattle.sink.specs.declared.text.TextSink.{TextSink}
use Rattle.sink.specs.Lent.{lent, Filled, lent_within, lent_bits, filled_none, filled_twice}
use Rattle.sink.specs.Meaning.{Meaning, Laws, SinkOf}

abbrev pub text_meaning : TextSink → Meaning
text_meaning s = record {
  text = take s.len (lent s.buf.now);
  limit = length (lent s.buf.now);
  marks = [];
  mark_limit = 0;
}

-- the memory is the same, and past the text it stays as it was
pub record TextKept (s t : TextSink) : Type 0 where
  pub memory : t.buf.ghost_name ≡ s.buf.ghost_name
  pub filled : Filled s.buf.now s.len t.buf.now t.len

pub text_laws : Laws text_meaning (λ is. TextKept)
text_laws = record {
  sound = λ s. record {
    text_within = lent_within s.len s.buf.now;
    limit_bits = lent_bits s.buf.now;
    marks_within = omega arith;
    mark_limit_bits = omega arith;
  };
  stays = λ s. record { memory = refl; filled = filled_none _ _ };
  adds_up = λ a b s t u f g. record { memory = g.memory ∙ f.memory; filled = filled_twice f.filled g.filled };
}

-- it keeps the same of every row of items
abbrev pub text_sink : SinkOf TextSink
text_sink = record { meaning = text_meaning; kept = λ is. TextKept; laws = text_laws }
