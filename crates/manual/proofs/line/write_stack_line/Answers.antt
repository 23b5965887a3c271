use Rattle.std.proofs.Common.{◌++◌, ap, ◌∙◌}
use Rattle.sink.proofs.Chain.{both, stop}
use Rattle.visitor.proofs.Pieces.{renamed}
use Rattle.lines.specs.Forms.{suffix_text}
use Rattle.lines.specs.Lines.{suffix, stack_name, word_items}
use Rattle.manual.proofs.line.write_stack_line.Goals as goal

pub returns-in_err-write_word : goal.returns-in_err-write_word
returns-in_err-write_word g c =
    let word = stack_name c.args.form.load ++ suffix c.args.instruction.now in
    let named = ap (λ n. word_items (n ++ suffix_text c.of.result)) c.stack_word.ensures.name ∙ ap (λ x. word_items (stack_name c.args.form.load ++ suffix_text x)) c.of.ensures.value in
    record { printed = stop g.T.DisplaySink.sink (word_items word) _ c.from_residual.result c.in_err-write_word.field-0.0 (renamed named c.in_err-write_word.ensures.printed) c.from_residual.ensures.1 }

pub returns : goal.returns
returns g c =
    let word = stack_name c.args.form.load ++ suffix c.args.instruction.now in
    let named = ap (λ n. word_items (n ++ suffix_text c.of.result)) c.stack_word.ensures.name ∙ ap (λ x. word_items (stack_name c.args.form.load ++ suffix_text x)) c.of.ensures.value in
    record { printed = both g.T.DisplaySink.sink (word_items word) _ (renamed named c.in_ok-write_word.ensures.printed) c.write_row.ensures.printed }
