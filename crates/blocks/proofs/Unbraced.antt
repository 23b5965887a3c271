-- Rows that begin otherwise than a list of registers. Assumes nothing.
use Rattle.std.proofs.Common.{◌≡◌, ℕ, Bool, true, false, not, ◌&&◌, eqb, List, [], ◌∷◌, ◌++◌, get_or, refl, ap, ◌∙◌, append_assoc, arith}
use Rattle.armv7.specs.declared.reg.Reg.{Reg}
use Rattle.armv7.specs.declared.shift.RegShiftStyle.{RegShiftStyle}
use Rattle.armv7.specs.declared.shift.RegShiftStyle.TheVariants.{RegImm, RegReg}
use Rattle.armv7.specs.declared.status.StatusRegMask.{StatusRegMask}
use Rattle.armv7.specs.Registers.{reg_name}
use Rattle.armv7.specs.Status.{status_name}
use Rattle.sink.specs.declared.sink.Edge.{Edge}
use Rattle.sink.specs.declared.sink.Span.{Span}
use Rattle.sink.specs.Items.{Item, byte, edge, bytes}
use Rattle.visitor.specs.Texts.{spanned, reg_items, shift_items}
use Rattle.blocks.specs.Grammar.{list_text}

-- a brace, and no digit 0 behind it
abbrev pub brace : List ℕ → Bool
brace t = eqb (get_or t 0 0) 123 && not (eqb (get_or t 1 0) 48)

brace_name : (r : Reg) (x : List ℕ) → eqb (get_or (reg_name r ++ x) 0 0) 48 ≡ false
brace_name r x = grind arith

pub brace_list : (rs : List Reg) → brace (list_text rs) ≡ true
brace_list [] = refl
brace_list (r ∷ rs) = ap not (brace_name r _)

-- whatever stands behind it, the row begins otherwise than a list
pub record Unbraced (is : List Item) : Type 0 where
  pub otherwise : (x : List Item) → brace (bytes (is ++ x)) ≡ false

pub unbraced_append : {a : List Item} (b : List Item) → Unbraced a → Unbraced (a ++ b)
unbraced_append {a} b u = record { otherwise = λ x. ap (λ is. brace (bytes is)) (append_assoc a b x) ∙ u.otherwise (b ++ x) }

pub unbraced_reg : (r : Reg) → Unbraced (reg_items r)
unbraced_reg r = record { otherwise = λ x. grind arith }

pub unbraced_banked : (r : Reg) (t : List ℕ) → Unbraced (spanned (reg_name r ++ t))
unbraced_banked r t = record { otherwise = λ x. grind arith }

pub unbraced_status : (m : StatusRegMask) → Unbraced (spanned (status_name m))
unbraced_status m = record { otherwise = λ x. grind arith }

pub unbraced_shift : (s : RegShiftStyle) → Unbraced (shift_items s)
unbraced_shift (RegImm s) = unbraced_append _ (unbraced_reg s.shiftee)
unbraced_shift (RegReg s) = unbraced_append _ (unbraced_reg s.shiftee)

-- a row that begins with such a byte
pub unbraced_byte : {b : ℕ} {is : List Item} → eqb b 123 ≡ false → Unbraced (byte b ∷ is)
unbraced_byte {b} {is} e = record { otherwise = λ x. ap (λ r. r && not (eqb (get_or (bytes (is ++ x)) 0 0) 48)) e }

-- a span that begins so
pub unbraced_span : {e : Edge} {k : Span} {b : ℕ} {is : List Item} → eqb b 123 ≡ false → Unbraced (edge e k ∷ byte b ∷ is)
unbraced_span {is = is} e = record { otherwise = λ x. (unbraced_byte {is = is} e).otherwise x }
