-- Worked inks. Assumes nothing.
use Rattle.std.specs.Prelude.{◌≡◌, List, ◌∷◌, ◌++◌, codes}
use Rattle.sink.specs.declared.sink.Edge.TheVariants.{Start, End}
use Rattle.sink.specs.declared.sink.Span.TheVariants.{Opcode, Register}
use Rattle.sink.specs.Items.{Item, edge, text_items}
use Rattle.cells.specs.declared.cell.Ink.TheVariants.{Plain, Opcode as OpcodeInk, Register as RegisterInk}
use Rattle.cells.specs.Inks.{inked, painted}

-- the line of a pop of one register, whose name lies in two spans
abbrev pop_row : List Item
pop_row =
    edge Start Opcode ∷ (text_items (codes "pop") ++ edge End Opcode ∷ (text_items (codes " {")
    ++ edge Start Register ∷ edge Start Register ∷ (text_items (codes "r3") ++ edge End Register ∷ edge End Register ∷ text_items (codes "}"))))

pub record WorkedInks : Type 0 where
  pub nested : inked Plain pop_row ≡ painted OpcodeInk (codes "pop") ++ (painted Plain (codes " {") ++ (painted RegisterInk (codes "r3") ++ painted Plain (codes "}")))
  -- the first end sets plain, though a span is still open
  pub between_ends : inked Plain (edge Start Register ∷ edge Start Register ∷ edge End Register ∷ text_items (codes "x")) ≡ painted Plain (codes "x")
  -- an end of another kind leaves the ink
  pub other_end : inked Plain (edge Start Opcode ∷ edge End Register ∷ text_items (codes "x")) ≡ painted OpcodeInk (codes "x")
  -- a start sets its kind over another's
  pub other_start : inked Plain (edge Start Register ∷ edge Start Opcode ∷ text_items (codes "x")) ≡ painted OpcodeInk (codes "x")
