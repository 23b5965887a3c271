use Rattle.std.proofs.Common.{◌≡◌, length, sym, refl, ap, ◌∙◌, arith}
use Rattle.visitor.specs.Texts.{prefixed}
use Rattle.measurer.proofs.Sizes.{option_size}
use Rattle.measurer.proofs.measuring.MeasurerOperandVisitor.visit_coprocessor_option.Goals as goal

pub returns : goal.returns
returns c =
    let digits : c.prefixed_size.result ≡ length (prefixed 2 c.args.nr) = c.prefixed_size.ensures.value 2 (omega arith) (omega arith) ∙ ap (λ n. length (prefixed 2 n)) c.from.ensures in
    record { answered = record { measured = record { told = refl; size = omega arith ∙ sym (option_size c.args.nr) }; stays = refl } }
