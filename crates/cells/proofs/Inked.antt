-- Rows of items in ink: their bytes, what fits of them, and the ink behind them. Assumes nothing.
use Rattle.std.proofs.Common.{◌≡◌, ℕ, zero, suc, List, [], ◌∷◌, ◌++◌, take, Option, None, refl, ap, ◌∙◌, ap₂}
use Rattle.sink.specs.declared.sink.Edge.TheVariants.{End}
use Rattle.sink.specs.declared.sink.Span.{Span}
use Rattle.sink.specs.declared.sink.Span.TheVariants.{Opcode, Register}
use Rattle.sink.specs.Items.{Item, byte, edge, text_items, bytes, fitting, within}
use Rattle.sink.specs.Meaning.{room}
use Rattle.sink.specs.Printed.{Printed}
use Rattle.sink.proofs.Chain.{full_fits}
use Rattle.sink.proofs.Rows.{fitting_all}
use Rattle.armv7.specs.Faults.{Refusal}
use Rattle.visitor.specs.Texts.{spanned}
use Rattle.blocks.specs.Bounds.{Nested, done, byte_then, span_then}
use Rattle.cells.specs.declared.cell.Ink.{Ink}
use Rattle.cells.specs.declared.cell.Ink.TheVariants.{Plain, Opcode as OpcodeInk, Register as RegisterInk}
use Rattle.cells.specs.declared.painting.CellSink.{CellSink}
use Rattle.cells.specs.CellSinks.{cells_of, cell_meaning, cell_sink, ink_behind_append}
use Rattle.cells.specs.Inks.{ink_of, ended_ink, next_ink, cell_in, painted, text_of, inked, ink_behind}

pub inked_bytes : (i : Ink) (is : List Item) → text_of (inked i is) ≡ bytes is
inked_bytes i [] = refl
inked_bytes i (byte b ∷ is) = ap (λ r. b ∷ r) (inked_bytes i is)
inked_bytes i (edge e s ∷ is) = inked_bytes (next_ink i e s) is

pub inked_fitting : (n : ℕ) (i : Ink) (is : List Item) → inked i (fitting n is) ≡ take n (inked i is)
inked_fitting zero i [] = refl
inked_fitting (suc n) i [] = refl
inked_fitting zero i (byte b ∷ is) = refl
inked_fitting (suc n) i (byte b ∷ is) = ap (λ r. cell_in i b ∷ r) (inked_fitting n i is)
inked_fitting n i (edge e s ∷ is) = inked_fitting n (next_ink i e s) is

-- a word in an opcode span, and what stands behind it
pub inked_word : (w : List ℕ) (is : List Item) → inked Plain (within Opcode (text_items w) ++ is) ≡ painted OpcodeInk w ++ inked Plain is
inked_word [] is = refl
inked_word (b ∷ w) is = ap (λ r. cell_in OpcodeInk b ∷ r) (inked_word w is)

-- a name in a register span, and what stands behind it
pub inked_name : (n : List ℕ) (is : List Item) → inked Plain (spanned n ++ is) ≡ painted RegisterInk n ++ inked Plain is
inked_name [] is = refl
inked_name (b ∷ n) is = ap (λ r. cell_in RegisterInk b ∷ r) (inked_name n is)

-- behind the row plain ink is plain, and a span around it ends in plain ink
pub record Settled (is : List Item) : Type 0 where
  pub plain : ink_behind Plain is ≡ Plain
  pub ended : (k : Span) → ended_ink (ink_behind (ink_of k) is) k ≡ Plain

own_end : (k : Span) → ended_ink (ink_of k) k ≡ Plain
own_end Opcode = refl
own_end Register = refl

pub settled : {is : List Item} → Nested is → Settled is
settled done = record { plain = refl; ended = own_end }
settled (byte_then b h) = record { plain = (settled h).plain; ended = (settled h).ended }
settled (span_then k {inside} {rest} h g) =
    let e : ink_behind (ink_of k) (inside ++ edge End k ∷ rest) ≡ Plain = ink_behind_append (ink_of k) inside (edge End k ∷ rest) ∙ ap (λ i. ink_behind i rest) ((settled h).ended k) ∙ (settled g).plain in
    record { plain = e; ended = λ j. ap (λ i. ended_ink i j) e }

-- what a sink of plain ink holds behind a row that was printed to it
module _ (is : List Item) (s t : CellSink) (plain : s.ink ≡ Plain) where
  pub printed_part : (r : Option Refusal) → Printed cell_sink is s r t → cells_of t ≡ cells_of s ++ take (room (cell_meaning s)) (inked Plain is)
  printed_part r p = p.rest.inks ∙ ap (λ cs. cells_of s ++ cs) (inked_fitting _ s.ink is ∙ ap (λ i. take (room (cell_meaning s)) (inked i is)) plain)

  pub printed_whole : Printed cell_sink is s None t → (cells_of t ≡ cells_of s ++ inked Plain is) × (t.ink ≡ ink_behind Plain is)
  printed_whole p =
      let all = fitting_all (room (cell_meaning s)) is (full_fits _ _ p.told) in
      (p.rest.inks ∙ ap₂ (λ i js. cells_of s ++ inked i js) plain all, p.rest.ink ∙ ap₂ ink_behind plain all)
