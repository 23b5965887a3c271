use Rattle.std.proofs.Common.{take, refl, ap, sym, ◌∙◌, arith}
use native.Mathlib.Nat.{sub-zero}
use Rattle.lines.specs.Admission.{reached_refused}
use Rattle.lines.specs.Operands.{reached}
use Rattle.sink.proofs.Chain.{broke}
use Rattle.lines.proofs.Tried.{all_four, ended, ended_at, past, past_at, refused_here, more}
use Rattle.lines.proofs.operands.admit_reached.Goals as goal

pub returns-then-is_nothing-clause-refusal : goal.returns-then-is_nothing-clause-refusal
returns-then-is_nothing-clause-refusal c =
    let os = c.args.operands.now in
    ended os c.loop-index.index (omega (arith, c.told-operands, c.loop-index-test.true)) c.loop-index.invariant c.if-is_nothing.ensures.value ∙ sym (ap (reached_refused 0) (all_four os c.told-operands))

pub returns-then-is_nothing-clause-value : goal.returns-then-is_nothing-clause-value
returns-then-is_nothing-clause-value c =
    let os = c.args.operands.now in
    let i = c.loop-index.index in
    ap (λ n. take n os) (sub-zero i) ∙ ended_at os i (omega (arith, c.told-operands, c.loop-index-test.true)) c.loop-index.invariant c.if-is_nothing.ensures.value ∙ sym (ap reached (all_four os c.told-operands))

pub returns-in_err-admit_operand-clause-refusal : goal.returns-in_err-admit_operand-clause-refusal
returns-in_err-admit_operand-clause-refusal c =
    let os = c.args.operands.now in
    broke c.from_residual.result c.in_err-admit_operand.field-0.0 c.from_residual.ensures.1
    ∙ refused_here os c.loop-index.index (omega (arith, c.told-operands, c.loop-index-test.true)) c.loop-index.invariant c.if-is_nothing.ensures.value _ c.loop-index-test.true c.in_err-admit_operand.ensures.refusal _ refl
    ∙ sym (ap (reached_refused 0) (all_four os c.told-operands))

pub loop-index-preserved : goal.loop-index-preserved
loop-index-preserved c =
    let os = c.args.operands.now in
    more os c.loop-index.index (omega (arith, c.told-operands, c.loop-index-test.true)) c.loop-index.invariant c.if-is_nothing.ensures.value _ c.loop-index-test.true c.in_ok-admit_operand.ensures.refusal refl

pub returns-clause-refusal : goal.returns-clause-refusal
returns-clause-refusal c =
    let os = c.args.operands.now in
    past os c.loop-index.index (omega (arith, c.told-operands, c.loop-index-test.false)) c.loop-index.invariant ∙ sym (ap (reached_refused 0) (all_four os c.told-operands))

pub returns-clause-value : goal.returns-clause-value
returns-clause-value c =
    let os = c.args.operands.now in
    past_at os c.loop-index.index (omega (arith, c.told-operands, c.loop-index-test.false)) c.loop-index.invariant ∙ sym (ap reached (all_four os c.told-operands))
