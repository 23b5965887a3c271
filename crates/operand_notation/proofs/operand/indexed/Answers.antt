use Rattle.std.proofs.Common.{Ok, sym, ap, ◌∙◌}
use Rattle.notation.specs.Parsing.{then}
use Rattle.notation.specs.Places.{ahead}
use Rattle.notation.specs.Reads.{outcome}
use Rattle.operand_notation.proofs.operand.indexed.Goals as goal

pub returns : goal.returns
returns g c f h =
    let e = c.bracketed.ensures.reads in
    let same = h ((c.in_ok-base.base, c.in_ok-base.offset), (c.in_ok-base.add, c.in_ok-base.back)) _ c.make.ensures in
    record {
      line = e.line;
      value = ap (λ o. then o (λ x. Ok (f x.0, x.1))) (e.value ∙ ap (λ r. outcome r (ahead c.bracketed.new.self)) c.in_ok-base.was) ∙ ap (λ o. Ok (o, ahead c.bracketed.new.self)) (sym same);
    }
