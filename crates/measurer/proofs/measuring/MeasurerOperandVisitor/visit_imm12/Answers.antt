use Rattle.std.proofs.Common.{◌≡◌, length, sym, refl, ap, ◌∙◌, arith}
use Rattle.visitor.specs.Texts.{prefixed}
use Rattle.measurer.proofs.Sizes.{size_text}
use Rattle.measurer.proofs.measuring.MeasurerOperandVisitor.visit_imm12.Goals as goal

pub returns : goal.returns
returns c =
    let digits : c.prefixed_size.result ≡ length (prefixed 4 c.args.imm) = c.prefixed_size.ensures.value 4 (omega arith) (omega arith) ∙ ap (λ n. length (prefixed 4 n)) c.from.ensures in
    record { answered = record { measured = record { told = refl; size = digits ∙ sym (size_text (prefixed 4 c.args.imm)) }; stays = refl } }
