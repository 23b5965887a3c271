-- What a sink holds, how each call changes it, and what a sink of a type is. Assumes nothing.
use Rattle.std.specs.Prelude.{◌≡◌, ℕ, ◌-◌, ◌^◌, ◌<◌, ◌≤◌, cond, List, [], ◌∷◌, ◌++◌, length, take, Result, nat_lt}
use Rattle.armv7.specs.declared.fault.Fault.{Fault}
use Rattle.sink.specs.declared.sink.Edge.{Edge}
use Rattle.sink.specs.declared.sink.Mark.{Mark}
use Rattle.sink.specs.declared.sink.Span.{Span}
use Rattle.sink.specs.Items.{Item, edge, text_items}
use Rattle.sink.specs.Outcome.{outcome, full_below}

pub record Meaning : Type 0 where
  pub text : List ℕ
  pub limit : ℕ
  pub marks : List Mark
  pub mark_limit : ℕ

-- lengths lie within 64 bits, and neither text nor marks pass their limit
pub record Sound (m : Meaning) : Type 0 where
  pub text_within : length m.text ≤ m.limit
  pub limit_bits : m.limit < 2 ^ 64
  pub marks_within : length m.marks ≤ m.mark_limit
  pub mark_limit_bits : m.mark_limit < 2 ^ 64

-- what every sink keeps to: its meaning is sound; where nothing was handed over, what it keeps is so; and of two rows, one handed
-- over behind the other, it keeps what it does of both as one
pub record Laws {S : Type 0} (meaning : S → Meaning) (kept : List Item → S → S → Type 0) : Type 0 where
  pub sound : (s : S) → Sound (meaning s)
  pub stays : (s : S) → kept [] s s
  pub adds_up : (a b : List Item) (s t u : S) → kept a s t → kept b t u → kept (a ++ b) s u

-- What a sink of type S is: what it holds, what else is so of it before and after a row of items was handed over and taken, as that
-- memory past its text is left alone, and the laws of both.
pub record SinkOf (S : Type 0) : Type 1 where
  pub meaning : S → Meaning
  pub kept : List Item → S → S → Type 0
  pub laws : Laws meaning kept

-- a sink that holds nothing yet
abbrev pub with_room : ℕ → ℕ → Meaning
with_room bytes marks = record { text = []; limit = bytes; marks = []; mark_limit = marks }

-- how many bytes more it takes
abbrev pub room : Meaning → ℕ
room m = m.limit - length m.text

-- after a piece was written: as much of it as there was room for
abbrev pub appended : List ℕ → Meaning → Meaning
appended piece m = record {
  text = m.text ++ take (room m) piece;
  limit = m.limit;
  marks = m.marks;
  mark_limit = m.mark_limit;
}

-- after an edge: one mark more, where there are fewer than its limit
abbrev pub marked : Edge → Span → Meaning → Meaning
marked e s m = record {
  text = m.text;
  limit = m.limit;
  marks = cond (nat_lt (length m.marks) m.mark_limit) (m.marks ++ record { edge = e; span = s; at = length m.text } ∷ []) m.marks;
  mark_limit = m.mark_limit;
}

-- a call that writes a piece: refused with 9 exactly where the piece is longer than the room
pub record Appends {S : Type 0} (sink : SinkOf S) (piece : List ℕ) (before : S) (answer : Result (Unit {0}) Fault) (after : S) : Type 0 where
  pub held : sink.meaning after ≡ appended piece (sink.meaning before)
  pub told : outcome answer ≡ full_below (room (sink.meaning before)) (length piece)
  pub rest : sink.kept (text_items (take (room (sink.meaning before)) piece)) before after

-- a call for an edge of a span, which is never refused
pub record Marks {S : Type 0} (sink : SinkOf S) (e : Edge) (k : Span) (before after : S) : Type 0 where
  pub held : sink.meaning after ≡ marked e k (sink.meaning before)
  pub rest : sink.kept (edge e k ∷ []) before after
