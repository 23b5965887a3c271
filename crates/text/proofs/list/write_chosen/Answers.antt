use Rattle.std.proofs.Common.{◌≡◌, ◌+◌, ◌/◌, ltb, [], ◌++◌, get_or, None, sym, refl, ap, ◌∙◌, subst, append_assoc, append-nil, arith}
use Rattle.armv7.specs.declared.reg.Reg.TheVariants.{R0}
use Rattle.sink.specs.Printed.{Printed}
use Rattle.sink.proofs.Chain.{both, stop, nothing}
use Rattle.visitor.specs.Texts.{all_regs}
use Rattle.text.proofs.Chosen.{ahead, next_items, within_more, set_here, clear_here, none_ahead}
use Rattle.visitor.proofs.Pieces.{renamed}
use Rattle.text.proofs.list.write_chosen.Goals as goal
use Rattle.text.proofs.list.write_chosen.Goals.{then-rest-eq1+in_ok-write_next, else-rest-eq1}

pub loop-reg-init : goal.loop-reg-init
loop-reg-init g c = ([], nothing g.T.DisplaySink.sink c.args.out.now, refl, omega arith)

pub loop-reg-preserved : goal.loop-reg-preserved
loop-reg-preserved g c =
    let rest = c.loop-reg.rest in
    let i = c.loop-reg.reg-index in
    let r = get_or all_regs i R0 in
    let within = c.loop-reg-test.true in
    let (done, printed, all, few) = c.loop-reg.invariant in
    elim c.if-rest-eq1.branch [
      | then-rest-eq1+in_ok-write_next w ↦ (
        done ++ next_items r (ltb 1 rest),
        subst (λ t. Printed g.T.DisplaySink.sink (done ++ next_items r (ltb 1 rest)) c.args.out.now None t) (sym w.out-is)
            (both g.T.DisplaySink.sink done (next_items r (ltb 1 rest)) printed w.in_ok-write_next.ensures),
        append_assoc done _ _ ∙ ap (λ is. done ++ is) (sym (set_here rest i R0 within few w.if-rest-eq1.true)) ∙ all,
        within_more rest i R0 within few,
      )
      | else-rest-eq1 w ↦ (
        done,
        subst (λ t. Printed g.T.DisplaySink.sink done c.args.out.now None t) (sym w.out-is) printed,
        ap (λ is. done ++ is) (sym (clear_here rest i R0 within w.if-rest-eq1.false)) ∙ all,
        within_more rest i R0 within few,
      )
    ]

pub returns-in_err-write_next : goal.returns-in_err-write_next
returns-in_err-write_next g c =
    let sink = g.T.DisplaySink.sink in
    let rest = c.loop-reg.rest in
    let i = c.loop-reg.reg-index in
    let r = get_or all_regs i R0 in
    let (done, printed, all, few) = c.loop-reg.invariant in
    renamed (ap (λ is. done ++ is) (sym (set_here rest i R0 c.loop-reg-test.true few c.if-rest-eq1.true)) ∙ all)
    (both sink done _ printed
    (stop sink (next_items r (ltb 1 rest)) (ahead (rest / 2) (i + 1)) c.from_residual.result c.in_err-write_next.field-0.0 c.in_err-write_next.ensures c.from_residual.ensures.1))

pub returns : goal.returns
returns g c =
    let last : c.loop-reg.reg-index ≡ 16 = omega arith in
    let (done, printed, all, few) = c.loop-reg.invariant in
    renamed (sym (append-nil done) ∙ ap (λ is. done ++ is) (sym (ap (ahead c.loop-reg.rest) last ∙ none_ahead c.loop-reg.rest)) ∙ all) printed
