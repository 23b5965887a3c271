-- Manual lines and printed lines. Assumes nothing.
use Rattle.std.proofs.Common.{◌≡◌, ℕ, Bool, true, false, ◌&&◌, List, [], ◌∷◌, ◌++◌, codes, Option, sym, refl, ap, ◌∙◌}
use Rattle.armv7.specs.declared.condition.ConditionCode.{ConditionCode}
use Rattle.armv7.specs.declared.instruction.Instruction.{Instruction}
use Rattle.armv7.specs.declared.operand.Operand.TheVariants.{RegWBack, RegList}
use Rattle.armv7.specs.declared.reg.Reg.{Reg}
use Rattle.armv7.specs.Registers.{reg_name}
use Rattle.kind.specs.declared.Kind.TheVariants.{Block as BlockKind}
use Rattle.opcode.specs.declared.Opcode.TheVariants.{LDM, STM}
use Rattle.sink.specs.declared.sink.Edge.TheVariants.{End}
use Rattle.sink.specs.declared.sink.Span.TheVariants.{Register}
use Rattle.sink.specs.Items.{Item, edge, text_items, bytes}
use Rattle.sink.proofs.Rows.{bytes_append}
use Rattle.lines.specs.declared.alias.Stacked.TheVariants.{List as ListOf, One}
use Rattle.lines.specs.declared.form.Block.{Block}
use Rattle.lines.specs.Lines.{suffix_of, line, line_of, parts_by, word_items, behind_word, stack_row as printed_row}
use Rattle.lines.specs.Moved.{Moved, at_sp, when, moved_by}
use Rattle.manual.specs.Lines.{stack_row, line_if, manual_line}
use Rattle.manual.specs.Plain.{with_two, PlainLines}

-- a name in one span, and in two, before the same end
same_name : (n : List ℕ) (end : List Item) → bytes (((text_items n ++ edge End Register ∷ []) ++ end) ++ []) ≡ bytes ((((text_items n ++ edge End Register ∷ []) ++ edge End Register ∷ end)) ++ [])
same_name [] end = refl
same_name (x ∷ n) end = ap (λ r. x ∷ r) (same_name n end)

-- a list under another name, or as the block transfer that it is
abbrev listed : Bool → Bool → Block → Option Moved
listed test load b = moved_by (when test (record { load = load; moved = ListOf b.mask })) (BlockKind b.user) (RegWBack b.base b.wback) (RegList b.mask)

list_plain : (test load : Bool) (b : Block) (i : Instruction) → line_if (listed test load b) i ≡ line_of (parts_by (listed test load b) (BlockKind b.user) i)
list_plain true load b i = refl
list_plain false load b i = refl

module _ (c : ConditionCode) (wide w thumb : Bool) where
  loads_plain : (add pre own user s : Bool) (base : Reg) (wback : Bool) (mask : ℕ) → manual_line (with_two c wide w thumb s (LDM add pre own user) (RegWBack base wback) (RegList mask)) ≡ line (with_two c wide w thumb false (LDM add pre false user) (RegWBack base wback) (RegList mask))
  unfolding manual_line line
  loads_plain true false own false s base wback mask = list_plain (at_sp base && wback) true (record { base = base; wback = wback; mask = mask; user = false }) (with_two c wide w thumb false (LDM true false false false) (RegWBack base wback) (RegList mask))
  loads_plain true false own true s base wback mask = refl
  loads_plain true true own user s base wback mask = refl
  loads_plain false true own user s base wback mask = refl
  loads_plain false false own user s base wback mask = refl

  stores_plain : (add pre own user s : Bool) (base : Reg) (wback : Bool) (mask : ℕ) → manual_line (with_two c wide w thumb s (STM add pre own user) (RegWBack base wback) (RegList mask)) ≡ line (with_two c wide w thumb false (STM add pre false user) (RegWBack base wback) (RegList mask))
  unfolding manual_line line
  stores_plain false true own false s base wback mask = list_plain (at_sp base && wback) false (record { base = base; wback = wback; mask = mask; user = false }) (with_two c wide w thumb false (STM false true false false) (RegWBack base wback) (RegList mask))
  stores_plain false true own true s base wback mask = refl
  stores_plain true true own user s base wback mask = refl
  stores_plain true false own user s base wback mask = refl
  stores_plain false false own user s base wback mask = refl

  -- the same word before the same register
  one_plain : (name : List ℕ) (r : Reg) → bytes (word_items (name ++ suffix_of false c w) ++ behind_word (stack_row (One r) ∷ [])) ≡ bytes (word_items (name ++ suffix_of false c w) ++ behind_word (printed_row (One r) ∷ []))
  one_plain name r =
      let word = word_items (name ++ suffix_of false c w) in
      bytes_append word (behind_word (stack_row (One r) ∷ [])) ∙ ap (λ l. bytes word ++ 32 ∷ 123 ∷ l) (same_name (reg_name r) (text_items (codes "}"))) ∙ sym (bytes_append word (behind_word (printed_row (One r) ∷ [])))

  pub plain_lines : PlainLines c wide w thumb
  unfolding manual_line line
  plain_lines = record { loads = loads_plain; stores = stores_plain; pops = λ s r. one_plain (codes "pop") r; pushes = λ s r. one_plain (codes "push") r }
