-- Rows of operands have no span of an opcode, and no cell of theirs has its ink. Assumes nothing.
use Rattle.std.proofs.Common.{◌≡◌, ◌≢◌, ℕ, ◌/◌, Bool, true, false, ◌&&◌, List, [], ◌∷◌, ◌++◌, map, refl, ap, ◌∙◌, arith}
use Rattle.std.specs.List.{AllByRecursion, list_all}
use Rattle.armv7.specs.declared.operand.Operand.{Operand}
use Rattle.armv7.specs.declared.reg.Reg.{Reg}
use Rattle.armv7.specs.declared.shift.RegShiftStyle.{RegShiftStyle}
use Rattle.armv7.specs.declared.shift.RegShiftStyle.TheVariants.{RegImm, RegReg}
use Rattle.sink.specs.declared.sink.Edge.{Edge}
use Rattle.sink.specs.declared.sink.Edge.TheVariants.{Start, End}
use Rattle.sink.specs.declared.sink.Span.TheVariants.{Opcode, Register}
use Rattle.sink.specs.Items.{Item, byte, edge, text_items}
use Rattle.visitor.specs.Operands.{operand_items}
use Rattle.visitor.specs.Texts.{reg_items, followed, joined, chosen, list_items, shift_items}
use Rattle.cells.specs.declared.cell.Ink.{Ink}
use Rattle.cells.specs.declared.cell.Ink.TheVariants.{Plain, Opcode as OpcodeInk, Register as RegisterInk}
use Rattle.cells.specs.Inks.{next_ink, inked}

-- no span of an opcode begins or ends in the row
abbrev pub no_opcode : List Item → Bool
no_opcode [] = true
no_opcode (byte b ∷ is) = no_opcode is
no_opcode (edge e Opcode ∷ is) = false
no_opcode (edge e Register ∷ is) = no_opcode is

pub no_opcode_append : (a b : List Item) → no_opcode (a ++ b) ≡ no_opcode a && no_opcode b
no_opcode_append [] b = refl
no_opcode_append (byte x ∷ a) b = no_opcode_append a b
no_opcode_append (edge e Opcode ∷ a) b = refl
no_opcode_append (edge e Register ∷ a) b = no_opcode_append a b

pub no_opcode_text : (t : List ℕ) → no_opcode (text_items t) ≡ true
no_opcode_text [] = refl
no_opcode_text (b ∷ t) = no_opcode_text t

-- rows one behind the other have none where each has none
pub no_opcode_followed : (rs : List (List Item)) → no_opcode (followed rs) ≡ list_all no_opcode rs
no_opcode_followed [] = refl
no_opcode_followed (r ∷ rs) = no_opcode_append r (followed rs) ∙ ap (λ b. no_opcode r && b) (no_opcode_followed rs)

no_opcode_joined : (rs : List (List Item)) → no_opcode (joined rs) ≡ list_all no_opcode rs
no_opcode_joined [] = refl
no_opcode_joined (r ∷ rs) = no_opcode_followed (r ∷ rs)

no_opcode_chosen : (rs : List Reg) (mask : ℕ) → list_all no_opcode (map reg_items (chosen rs mask)) ≡ true
no_opcode_chosen [] mask = refl
no_opcode_chosen (r ∷ rs) mask = grind (arith, no_opcode_append, no_opcode_text, no_opcode_chosen rs (mask / 2))

pub no_opcode_list : (mask : ℕ) → no_opcode (list_items mask) ≡ true
no_opcode_list mask = simp (no_opcode_append, no_opcode_joined, no_opcode_chosen)

no_opcode_shift : (s : RegShiftStyle) → no_opcode (shift_items s) ≡ true
no_opcode_shift (RegImm s) = simp (no_opcode_append, no_opcode_text)
no_opcode_shift (RegReg s) = simp (no_opcode_append, no_opcode_text)

pub no_opcode_operand : (o : Operand) → no_opcode (operand_items o) ≡ true
no_opcode_operand o = grind (arith, no_opcode_append, no_opcode_text, no_opcode_list, no_opcode_shift)

pub all_append : (a b : List (List Item)) → list_all no_opcode (a ++ b) ≡ list_all no_opcode a && list_all no_opcode b
all_append [] b = refl
all_append (r ∷ a) b = grind (arith, all_append a b)

-- an edge of a register's span does not bring the opcode's ink
other_ink : (i : Ink) (e : Edge) → i ≢ OpcodeInk → next_ink i e Register ≢ OpcodeInk
other_ink i Start h e = cc
other_ink Plain End h e = cc
other_ink OpcodeInk End h e = h e
other_ink RegisterInk End h e = cc

pub other_inks : (i : Ink) (is : List Item) → i ≢ OpcodeInk → no_opcode is ≡ true → AllByRecursion (λ c. c.ink ≢ OpcodeInk) (inked i is)
other_inks i [] h e = tt
other_inks i (byte b ∷ is) h e = (h, other_inks i is h e)
other_inks i (edge x Opcode ∷ is) h e = absurd (cc)
other_inks i (edge x Register ∷ is) h e = other_inks (next_ink i x Register) is (other_ink i x h) e
