use Rattle.measure.proofs.Sizes.{line_size}
use Rattle.measure.proofs.line.measure.Goals as goal

pub returns-clause-size : goal.returns-clause-size
returns-clause-size c = line_size c.args.instruction.now c.in_ok-form.form c.word_size-word.ensures.value c.rows_size-rows.ensures.value c.saturating_sub.ensures c.in_ok-form.ensures.shown
