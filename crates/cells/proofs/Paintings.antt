-- Cells that are painted behind a text, and turns of the ink. Assumes nothing.
use Rattle.std.proofs.Common.{◌≡◌, ℕ, ◌-◌, ◌^◌, ◌<◌, List, [], ◌∷◌, ◌++◌, length, take, sym, refl, ap, ◌∙◌, ap₂, arith}
use mathlib.Core.List.{map-append}
use lib.ListN.{length-map}
use Rattle.sink.specs.Items.{text_items}
use Rattle.sink.specs.Lent.{lent}
use Rattle.sink.specs.Meaning.{Meaning, room, appended}
use Rattle.sink.proofs.Lents.{all_lent, room_left, write_limit}
use Rattle.cells.specs.declared.cell.Cell.{Cell}
use Rattle.cells.specs.declared.cell.Ink.{Ink}
use Rattle.cells.specs.declared.painting.CellSink.{CellSink}
use Rattle.cells.specs.CellSinks.{cells_of, cell_meaning}
use Rattle.cells.specs.Inks.{cell_in, painted, text_of, inked, ink_behind}

text_painted : (i : Ink) (p : List ℕ) → text_of (painted i p) ≡ p
text_painted i [] = refl
text_painted i (b ∷ p) = ap (λ r. b ∷ r) (text_painted i p)

inked_text : (i : Ink) (p : List ℕ) → inked i (text_items p) ≡ painted i p
inked_text i [] = refl
inked_text i (b ∷ p) = ap (λ r. cell_in i b ∷ r) (inked_text i p)

pub ink_behind_text : (i : Ink) (p : List ℕ) → ink_behind i (text_items p) ≡ i
ink_behind_text i [] = refl
ink_behind_text i (b ∷ p) = ink_behind_text i p

-- the meaning of a cell sink by its text and limit
abbrev holding : List ℕ → ℕ → Meaning
holding t l = record { text = t; limit = l; marks = []; mark_limit = 0 }

-- What a write of p to the sink s left: its cells are ys, of which the first k are in use.
module _ (s : CellSink) (ys : List Cell) (k : ℕ) (p : List ℕ) (bits : length s.cells.now < 2 ^ 64) (size : length ys ≡ length s.cells.now) (text : take k ys ≡ take s.len s.cells.now ++ painted s.ink (take (length s.cells.now - s.len) p)) where
  pub paint_room : length s.cells.now - s.len ≡ room (cell_meaning s)
  paint_room = room_left s.cells.now s.len bits s.within ∙ ap (λ n. length (lent s.cells.now) - n) (sym (length-map (cells_of s) (λ (c : Cell). c.byte)))

  paint_cells : take k (lent ys) ≡ cells_of s ++ painted s.ink (take (room (cell_meaning s)) p)
  paint_cells = ap (take k) (all_lent ys (omega (arith, size))) ∙ text ∙ ap₂ (λ (l : List Cell) n. take s.len l ++ painted s.ink (take n p)) (sym (all_lent s.cells.now bits)) paint_room

  pub paint_inks : take k (lent ys) ≡ cells_of s ++ inked s.ink (text_items (take (room (cell_meaning s)) p))
  paint_inks = paint_cells ∙ ap (λ r. cells_of s ++ r) (sym (inked_text s.ink _))

  pub paint_meaning : holding (text_of (take k (lent ys))) (length (lent ys)) ≡ appended p (cell_meaning s)
  paint_meaning =
      ap₂ holding (ap text_of paint_cells ∙ map-append (λ (c : Cell). c.byte) (cells_of s) _ ∙ ap (λ r. text_of (cells_of s) ++ r) (text_painted s.ink _))
      (write_limit s.cells.now ys (painted s.ink p) s.len k bits s.within size)
