use Rattle.std.proofs.Common.{◌≡◌, length, sym, ap, ◌∙◌, arith}
use Rattle.visitor.specs.Texts.{prefixed}
use Rattle.measurer.proofs.Sizes.{offset_length}
use Rattle.measurer.proofs.size.offset_size.Goals as goal

pub returns : goal.returns
returns c =
    let digits : c.prefixed_size.result ≡ length (prefixed 4 c.args.offset) = c.prefixed_size.ensures.value 4 (omega arith) (omega arith) ∙ ap (λ n. length (prefixed 4 n)) c.from.ensures in
    let all = offset_length c.args.add c.args.offset c.if-offset-eq0.false in
    record { value = omega arith ∙ sym all; bound = omega arith }
