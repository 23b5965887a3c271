use Rattle.std.proofs.Common.{◌+◌, sym, ap, ◌∙◌, ap₂, arith}
use Rattle.sink.specs.Items.{text_items}
use Rattle.sink.proofs.Rows.{length_bytes}
use Rattle.visitor.specs.Texts.{reg_items, amount_text, shift_items}
use Rattle.measurer.proofs.Sizes.{size, size_text}
use Rattle.measurer.proofs.size.shift_size.Goals as goal

pub returns-in-RegImm : goal.returns-in-RegImm
returns-in-RegImm c =
    let by = c.in-RegImm.by in
    let amount = amount_text by.stype by.imm in
    record {
      value = ap₂ ◌+◌ c.reg_size.ensures.value (c.amount_size.ensures.value ∙ sym (size_text amount)) ∙ sym (length_bytes (reg_items by.shiftee) (text_items amount)) ∙ ap (λ s. size (shift_items s)) c.in-RegImm.ensures.fields;
      bound = omega arith;
    }
