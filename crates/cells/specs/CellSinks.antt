-- A sink on lent cells: they hold its text and the ink of each byte, and it has no marks. Assumes nothing.
use Rattle.std.specs.Prelude.{◌≡◌, List, [], ◌∷◌, ◌++◌, length, take, refl}
use Rattle.std.proofs.Common.{append-nil, append_assoc, sym, ap, ap₂, ◌∙◌, arith}
use Rattle.std.proofs.lemmas.List.{length-map}
use Rattle.sink.specs.Items.{Item, byte, edge}
use Rattle.sink.specs.Lent.{lent, Filled, lent_within, lent_bits, filled_none, filled_twice}
use Rattle.sink.specs.Meaning.{Meaning, Laws, SinkOf}
use Rattle.cells.specs.declared.cell.Cell.{Cell}
use Rattle.cells.specs.declared.cell.Ink.{Ink}
use Rattle.cells.specs.declared.painting.CellSink.{CellSink}
use Rattle.cells.specs.Inks.{next_ink, cell_in, text_of, inked, ink_behind}

-- the cells that are the text
abbrev pub cells_of : CellSink → List Cell
cells_of s = take s.len (lent s.cells.now)

abbrev pub cell_meaning : CellSink → Meaning
cell_meaning s = record {
  text = text_of (cells_of s);
  limit = length (lent s.cells.now);
  marks = [];
  mark_limit = 0;
}

-- Of a row of items that was handed over: the memory is the same, and past the text it stays as it was. The cells of the row stand
-- behind those of the text, with the inks that the row gives them, from the ink before it.
pub record CellKept (is : List Item) (s t : CellSink) : Type 0 where
  pub memory : t.cells.ghost_name ≡ s.cells.ghost_name
  pub filled : Filled s.cells.now s.len t.cells.now t.len
  pub inks : cells_of t ≡ cells_of s ++ inked s.ink is
  pub ink : t.ink ≡ ink_behind s.ink is

pub inked_append : (i : Ink) (a b : List Item) → inked i (a ++ b) ≡ inked i a ++ inked (ink_behind i a) b
inked_append i [] b = refl
inked_append i (byte x ∷ a) b = ap (λ r. cell_in i x ∷ r) (inked_append i a b)
inked_append i (edge e s ∷ a) b = inked_append (next_ink i e s) a b

pub ink_behind_append : (i : Ink) (a b : List Item) → ink_behind i (a ++ b) ≡ ink_behind (ink_behind i a) b
ink_behind_append i [] b = refl
ink_behind_append i (byte x ∷ a) b = ink_behind_append i a b
ink_behind_append i (edge e s ∷ a) b = ink_behind_append (next_ink i e s) a b

kept_both : (a b : List Item) (s t u : CellSink) → CellKept a s t → CellKept b t u → CellKept (a ++ b) s u
kept_both a b s t u f g = record {
  memory = g.memory ∙ f.memory;
  filled = filled_twice f.filled g.filled;
  inks = g.inks ∙ ap₂ (λ l i. l ++ inked i b) f.inks f.ink ∙ append_assoc (cells_of s) (inked s.ink a) _ ∙ ap (λ l. cells_of s ++ l) (sym (inked_append s.ink a b));
  ink = g.ink ∙ ap (λ i. ink_behind i b) f.ink ∙ sym (ink_behind_append s.ink a b);
}

pub cell_laws : Laws cell_meaning CellKept
cell_laws = record {
  sound = λ s. record {
    text_within = omega (arith, length-map (cells_of s) (λ (c : Cell). c.byte), lent_within s.len s.cells.now);
    limit_bits = lent_bits s.cells.now;
    marks_within = omega arith;
    mark_limit_bits = omega arith;
  };
  stays = λ s. record { memory = refl; filled = filled_none _ _; inks = sym (append-nil (cells_of s)); ink = refl };
  adds_up = kept_both;
}

-- it keeps the inks of the row
abbrev pub cell_sink : SinkOf CellSink
cell_sink = record { meaning = cell_meaning; kept = CellKept; laws = cell_laws }
