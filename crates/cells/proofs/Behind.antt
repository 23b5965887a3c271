-- Behind its word a line has no span of an opcode. Assumes nothing.
use Rattle.std.proofs.Common.{◌≡◌, ℕ, true, ◌&&◌, List, [], ◌∷◌, ◌++◌, map, Some, None, Option, refl, ap, ◌∙◌, arith}
use Rattle.std.specs.List.{list_all}
use Rattle.armv7.specs.declared.instruction.Instruction.{Instruction}
use Rattle.armv7.specs.declared.operand.Operand.{Operand}
use Rattle.armv7.specs.declared.operand.Operand.TheVariants.{Imm12, Imm32}
use Rattle.armv7.specs.Conditions.{condition_name}
use Rattle.kind.specs.declared.Kind.{Kind}
use Rattle.kind.specs.declared.Kind.TheVariants.{It, Cps, Setend, Coprocessor}
use Rattle.kind.specs.Kinds.{optional, kind_of}
use Rattle.opcode.specs.Names.{name_of}
use Rattle.sink.specs.Items.{Item, text_items}
use Rattle.visitor.specs.Operands.{operand_items}
use Rattle.lines.specs.declared.alias.Stacked.{Stacked}
use Rattle.lines.specs.declared.alias.Stacked.TheVariants.{List as ListOf, One}
use Rattle.lines.specs.Lines.{Parts, own_parts, stack_row, moved_parts, it_parts, it_letters, condition_at, cps_parts, setend_parts, setend_text, kind_parts, parts_by, suffix, code_row, code_rows, parts, behind_word}
use Rattle.lines.specs.Moved.{Moved, stacked, transferred, moved}
use Rattle.lines.specs.Operands.{operand, reached, four}
use Rattle.cells.proofs.Registers.{no_opcode, no_opcode_append, no_opcode_text, no_opcode_followed, no_opcode_list, no_opcode_operand, all_append}

no_opcode_behind : (rs : List (List Item)) → no_opcode (behind_word rs) ≡ list_all no_opcode rs
no_opcode_behind [] = refl
no_opcode_behind (r ∷ rs) = no_opcode_followed (r ∷ rs)

no_opcode_reached : (os : List Operand) → list_all no_opcode (map operand_items (reached os)) ≡ true
no_opcode_reached [] = refl
no_opcode_reached (o ∷ os) = grind (arith, no_opcode_operand, no_opcode_reached os)

no_opcode_codes : (cs : List ℕ) → list_all no_opcode (map code_row cs) ≡ true
no_opcode_codes [] = refl
no_opcode_codes (c ∷ cs) = grind (arith, no_opcode_text, no_opcode_codes cs)

no_opcode_before : (cs : List ℕ) → list_all no_opcode (code_rows cs) ≡ true
no_opcode_before [] = refl
no_opcode_before (c ∷ cs) = grind (arith, no_opcode_text, no_opcode_codes cs)

record NoOpcode (p : Parts) : Type 0 where
  none : list_all no_opcode p.rows ≡ true

own_none : (i : Instruction) → NoOpcode (own_parts i)
own_none i = record { none = no_opcode_reached (four i) }

stack_none : (m : Stacked) → no_opcode (stack_row m) ≡ true
stack_none (ListOf mask) = no_opcode_list mask
stack_none (One r) = simp (no_opcode_append, no_opcode_text)

moved_none : (m : Moved) (i : Instruction) → NoOpcode (moved_parts m i)
moved_none (stacked form) i = record { none = ap (λ b. b && true) (stack_none form.moved) }
moved_none (transferred b) i = record { none = grind (arith, no_opcode_append, no_opcode_text, no_opcode_list) }

text_none : (word text : List ℕ) → NoOpcode (record { word = word; rows = text_items text ∷ [] })
text_none word text = record { none = simp no_opcode_text }

it_none : (a b : Operand) (i : Instruction) → NoOpcode (it_parts a b i)
it_none (Imm32 c) (Imm32 m) i = text_none (name_of i.opcode ++ (suffix i ++ it_letters c m)) (condition_name (condition_at c))
it_none a b i = own_none i

cps_none : (a b : Operand) (i : Instruction) → NoOpcode (cps_parts a b i)
cps_none (Imm12 flags) b i = record { none = grind (arith, no_opcode_text, all_append) }
cps_none a b i = own_none i

setend_none : (a : Operand) (i : Instruction) → NoOpcode (setend_parts a i)
setend_none (Imm12 n) i = text_none (name_of i.opcode ++ suffix i) (setend_text n)
setend_none a i = own_none i

codes_none : (before behind : List ℕ) (os : List Operand) → list_all no_opcode (code_rows before ++ (map operand_items (reached os) ++ map code_row behind)) ≡ true
codes_none before behind os = simp (all_append, no_opcode_before, no_opcode_reached, no_opcode_codes)

kind_none : (k : Kind) (i : Instruction) → NoOpcode (kind_parts k i)
kind_none It i = it_none (operand 0 i) (operand 1 i) i
kind_none Cps i = cps_none (operand 0 i) (operand 1 i) i
kind_none Setend i = setend_none (operand 0 i) i
kind_none (Coprocessor c) i = record { none = codes_none (c.coprocessor ∷ optional c.second) (optional c.third) (four i) }
kind_none other i = own_none i

parts_none : (o : Option Moved) (k : Kind) (i : Instruction) → NoOpcode (parts_by o k i)
parts_none (Some m) k i = moved_none m i
parts_none None k i = kind_none k i

-- the row behind the word of a line
pub no_opcode_line : (i : Instruction) → no_opcode (behind_word (parts i).rows) ≡ true
no_opcode_line i = no_opcode_behind (parts i).rows ∙ (parts_none (moved i) (kind_of i.opcode) i).none
