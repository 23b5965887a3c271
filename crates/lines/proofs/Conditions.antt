-- An IT block, by the condition that its number stands for. Assumes nothing.
use Rattle.std.proofs.Common.{◌≡◌, ℕ, ◌≤◌, [], ◌∷◌, ◌++◌, Ok, sym, refl, ap, ◌∙◌, ap₂, arith}
use Rattle.armv7.specs.declared.instruction.Instruction.{Instruction}
use Rattle.armv7.specs.declared.operand.Operand.TheVariants.{Imm32}
use Rattle.armv7.specs.Conditions.{condition_name, condition_number}
use Rattle.kind.specs.declared.Kind.TheVariants.{It as ItKind}
use Rattle.opcode.specs.Names.{name_of}
use Rattle.sink.specs.Items.{text_items}
use Rattle.lines.specs.declared.form.Form.TheVariants.{It}
use Rattle.lines.specs.Forms.{AdmittedAs}
use Rattle.lines.specs.Lines.{suffix, it_letters, condition_at, it_parts}
use Rattle.lines.specs.Operands.{operand}

-- the conditions are numbered in order
numbered : (n : ℕ) → n ≤ 14 → condition_number (condition_at n) ≡ n
numbered n h = grind arith

pub it_admitted : (i : Instruction) (c m : ℕ) → operand 0 i ≡ Imm32 c → operand 1 i ≡ Imm32 m → c ≤ 14 → m ≤ 15 → AdmittedAs ItKind i (Ok (It (record { condition = condition_at c; mask = m })))
it_admitted i c m e l h k = record {
  refusal = grind (arith, e, l, h, k);
  shown = ap (λ n. record { word = name_of i.opcode ++ (suffix i ++ it_letters n m); rows = text_items (condition_name (condition_at c)) ∷ [] }) (numbered c h)
      ∙ sym (ap₂ (λ a b. it_parts a b i) e l);
  moves = refl;
}
