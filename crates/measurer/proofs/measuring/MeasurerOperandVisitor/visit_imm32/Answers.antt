use Rattle.std.proofs.Common.{sym, refl, ◌∙◌, arith}
use Rattle.visitor.specs.Texts.{prefixed}
use Rattle.measurer.proofs.Sizes.{size_text}
use Rattle.measurer.proofs.measuring.MeasurerOperandVisitor.visit_imm32.Goals as goal

pub returns : goal.returns
returns c = record { answered = record { measured = record { told = refl; size = c.prefixed_size.ensures.value 8 (omega arith) (omega arith) ∙ sym (size_text (prefixed 8 c.args.imm)) }; stays = refl } }
