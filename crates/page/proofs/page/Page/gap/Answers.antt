use Rattle.armv7.specs.declared.call.Call.TheVariants.{Gap}
use Rattle.page.specs.Spellings.{own}
use Rattle.page.proofs.Callings.{step_of}
use Rattle.page.proofs.page.Page.gap.Goals as goal

pub returns : goal.returns
returns g c = record {
  step = step_of g.S.DisplaySink.sink own Gap c.args.self.now c.answer.new.self c.write_gap-wrote.new.out c.write_gap-wrote.result c.answer.result c.write_gap-wrote.ensures.printed_or_refused c.answer.ensures.result_value c.answer.ensures.sink_unchanged c.answer.ensures.count_after;
}
