use Rattle.std.proofs.Common.{◌≡◌, ◌+◌, get_or, drop, Result, sym, ap, ◌∙◌, subst}
use Rattle.std.proofs.lemmas.List.{at_drop_more, at_drop_all}
use Rattle.std.proofs.lemmas.Result.{err_from_is_err_and}
use Rattle.misreading.specs.declared.given.Given.TheVariants.{Condition}
use Rattle.notation.specs.Parsing.{Tokens, Stop, given, givens, then}
use Rattle.notation.specs.Places.{ahead}
use Rattle.notation.specs.Reads.{Reads}
use Rattle.notation.proofs.cursor.Cursor.expect.Goals as goal
use Rattle.notation.proofs.cursor.Cursor.expect.Goals.{After-pass}

-- what is left at a turn begins with this turn's token
opens : (c : After-pass) (o : Result (Unit {0} × Tokens) Stop) → given (get_or c.args.wanted.now c.loop-token.token-index Condition) (ahead c.loop-token.self) ≡ o → givens c.args.wanted.now (ahead c.args.self.now) ≡ then o (λ x. givens (drop (c.loop-token.token-index + 1) c.args.wanted.now) x.1)
opens c o e =
    let step : givens (drop c.loop-token.token-index c.args.wanted.now) (ahead c.loop-token.self) ≡ then (given (get_or c.args.wanted.now c.loop-token.token-index Condition) (ahead c.loop-token.self)) (λ x. givens (drop (c.loop-token.token-index + 1) c.args.wanted.now) x.1) = at_drop_more (λ gs. givens gs (ahead c.loop-token.self)) c.args.wanted.now c.loop-token.token-index Condition c.loop-token-test.true in
    c.loop-token.invariant.1 ∙ step ∙ ap (λ p. then p (λ x. givens (drop (c.loop-token.token-index + 1) c.args.wanted.now) x.1)) e

pub returns-in_err-pass : goal.returns-in_err-pass
returns-in_err-pass c =
    let e = c.in_err-pass.ensures in
    let q = err_from_is_err_and c.from_residual.result c.from_residual.ensures.1 in
    record {
      reads = subst (λ x. Reads (givens c.args.wanted.now) c.args.self.now x c.pass.new.self) (sym (rw q.2 at q.1)) (record {
        line = e.line ∙ c.loop-token.invariant.0;
        value = opens (goal.at.returns-in_err-pass c).After-pass _ e.value;
      });
    }

pub loop-token-preserved : goal.loop-token-preserved
loop-token-preserved c =
    let e = c.in_ok-pass.ensures in
    (e.line ∙ c.loop-token.invariant.0, opens (goal.at.loop-token-preserved c).After-pass _ e.value)

pub returns : goal.returns
returns c = record {
  reads = record {
    line = c.loop-token.invariant.0;
    value = c.loop-token.invariant.1 ∙ at_drop_all (λ gs. givens gs (ahead c.loop-token.self)) _ _ c.loop-token-test.false;
  };
}
