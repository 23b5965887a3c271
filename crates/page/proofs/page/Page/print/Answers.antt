use Rattle.armv7.specs.declared.call.Call.TheVariants.{Print}
use Rattle.page.specs.Spellings.{own}
use Rattle.page.proofs.Callings.{step_of}
use Rattle.page.proofs.page.Page.print.Goals as goal

pub returns : goal.returns
returns g c = record {
  step = step_of g.S.DisplaySink.sink own (Print c.args.instruction.now) c.args.self.now c.answer.new.self c.write_line-wrote.new.out c.write_line-wrote.result c.answer.result c.write_line-wrote.ensures.printed_or_refused c.answer.ensures.result_value c.answer.ensures.sink_unchanged c.answer.ensures.count_after;
}
