use Rattle.runs.proofs.Chains.{lawful_own, steps_make_runs}
use Rattle.runs.proofs.steps_make_runs.Goals as goal

pub returns : goal.returns
returns g c = record { any_chain = steps_make_runs g.S.DisplaySink.sink lawful_own }
