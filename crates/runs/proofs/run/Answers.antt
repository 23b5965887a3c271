use Rattle.std.proofs.Common.{◌<◌, ◌≤◌, [], map, length, sym, refl, ◌∙◌, subst, arith, take_all}
use Rattle.runs.specs.Runs.{called, Run}
use Rattle.page.specs.Spellings.{own}
use Rattle.runs.specs.Chains.{Driven, made}
use Rattle.runs.proofs.Stores.{calls_kept, driven_more}
use Rattle.runs.proofs.Chains.{lawful_own, state, law}
use Rattle.runs.proofs.run.Goals as goal

pub loop-entry-init : goal.loop-entry-init
loop-entry-init g c =
    let is = c.new-page.ensures.made in
    (subst (λ p. Driven g.S.DisplaySink.sink own p.sink [] p) (sym is) made, refl)

pub loop-entry-preserved : goal.loop-entry-preserved
loop-entry-preserved g c =
    let within : c.loop-entry.entry-index < length c.loop-entry.entries = omega (arith, c.loop-entry.auto.entries, c.loop-entry-test.true) in (
      driven_more g.S.DisplaySink.sink own c.new-page.result.sink c.loop-entry.entries c.loop-entry.entry-index _ c.call-entry.result within c.loop-entry.invariant.0 c.call-entry.ensures.step,
      calls_kept c.loop-entry.entries c.loop-entry.entry-index _ c.call-entry.result ∙ c.loop-entry.invariant.1,
    )

pub returns : goal.returns
returns g c =
    let sink = g.S.DisplaySink.sink in
    let page = c.loop-entry.page in
    let whole : length c.loop-entry.entries ≤ c.loop-entry.entry-index = omega (arith, c.loop-entry.auto.entries, c.loop-entry-test.false) in
    let chain : Driven sink own c.new-page.result.sink c.loop-entry.entries page = subst (λ es. Driven sink own c.new-page.result.sink es page) (take_all c.loop-entry.entry-index c.loop-entry.entries whole) c.loop-entry.invariant.0 in
    let from : Driven sink own c.args.sink c.loop-entry.entries page = subst (λ p. Driven sink own p.sink c.loop-entry.entries page) c.new-page.ensures.made chain in
    let held : Run sink own c.args.sink (map called c.args.entries.now) c.loop-entry.entries page.sink page.count = law sink own c.args.sink lawful_own (state sink own c.args.sink from) (map called c.args.entries.now) c.loop-entry.invariant.1 in
    record {
      law = subst (λ x. Run sink own c.args.sink (map called c.args.entries.now) c.loop-entry.entries x c.close.result.count) (sym c.close.ensures.same_sink)
          (subst (λ n. Run sink own c.args.sink (map called c.args.entries.now) c.loop-entry.entries page.sink n) (sym c.close.ensures.same_count) held);
    }
