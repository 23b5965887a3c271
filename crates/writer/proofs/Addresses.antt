-- The text of an address by the items of its offset. Assumes nothing.
use Rattle.std.proofs.Common.{◌≡◌, ℕ, Bool, false, List, ◌++◌, codes, sym, ap, ◌∙◌, append_assoc, append-nil}
use mathlib.Core.List.{map-append}
use Rattle.armv7.specs.declared.operand.Operand.TheVariants.{RegDeref, RegDerefPreindexRegShift, RegDerefPostindexOffset, RegDerefPreindexOffset, RegDerefPostindexReg, RegDerefPreindexReg}
use Rattle.armv7.specs.declared.reg.Reg.{Reg}
use Rattle.armv7.specs.declared.shift.RegShift.{RegShift}
use Rattle.armv7.specs.Shifts.{shift_fields, shift_word}
use Rattle.sink.specs.Items.{Item, byte, text_items}
use Rattle.visitor.specs.Operands.{bang, minus, offset_text, operand_items}
use Rattle.visitor.specs.Texts.{reg_items, shift_items}

abbrev comma : Bool → List Item
comma add = text_items (codes ", " ++ minus add)

module _ (base : Reg) (add : Bool) where
  abbrev inside : List Item → List Item
  inside l = text_items (codes "[") ++ (reg_items base ++ l)

  pub shift_inside : (s : RegShift) (w : Bool) → inside ((comma add ++ shift_items (shift_fields (shift_word s))) ++ text_items (codes "]" ++ bang w)) ≡ operand_items (RegDerefPreindexRegShift base s add w)
  shift_inside s w = ap inside (append_assoc (comma add) (shift_items (shift_fields (shift_word s))) (text_items (codes "]" ++ bang w)))

  pub offset_inside : (n : ℕ) (w : Bool) → inside (text_items (offset_text add n) ++ text_items (codes "]" ++ bang w)) ≡ operand_items (RegDerefPreindexOffset base n add w)
  offset_inside n w = ap inside (sym (map-append byte (offset_text add n) (codes "]" ++ bang w)))

  pub reg_inside : (o : Reg) (w : Bool) → inside ((comma add ++ reg_items o) ++ text_items (codes "]" ++ bang w)) ≡ operand_items (RegDerefPreindexReg base o add w)
  reg_inside o w = ap inside (append_assoc (comma add) (reg_items o) (text_items (codes "]" ++ bang w)))

  -- what stands behind an address
  past : (l : List Item) → operand_items (RegDeref base) ++ l ≡ inside (text_items (codes "]") ++ l)
  past l = ap (λ x. text_items (codes "[") ++ x) (append_assoc (reg_items base) (text_items (codes "]")) l)

  pub offset_past : (n : ℕ) → operand_items (RegDeref base) ++ (text_items (offset_text add n) ++ text_items (bang false)) ≡ operand_items (RegDerefPostindexOffset base n add false)
  offset_past n = past _ ∙ ap (λ l. inside (text_items (codes "]") ++ l)) (append-nil (text_items (offset_text add n)))

  pub reg_past : (o : Reg) (w : Bool) → operand_items (RegDeref base) ++ ((comma add ++ reg_items o) ++ text_items (bang w)) ≡ operand_items (RegDerefPostindexReg base o add w)
  reg_past o w = past _ ∙ ap (λ l. inside (text_items (codes "]") ++ l)) (append_assoc (comma add) (reg_items o) (text_items (bang w)))
