use Rattle.sink.proofs.Chain.{both, stop}
use Rattle.lines.specs.Forms.{word_of}
use Rattle.lines.specs.Lines.{word_items}
use Rattle.display.proofs.inst.write_formed.Goals as goal

pub returns-in_err-write_form_word : goal.returns-in_err-write_form_word
returns-in_err-write_form_word g c = record { printed = stop g.T.DisplaySink.sink (word_items (word_of c.args.form c.args.instruction.now)) _ c.from_residual.result c.in_err-write_form_word.field-0.0 c.in_err-write_form_word.ensures.printed c.from_residual.ensures.1 }

pub returns : goal.returns
returns g c = record { printed = both g.T.DisplaySink.sink (word_items (word_of c.args.form c.args.instruction.now)) _ c.in_ok-write_form_word.ensures.printed c.write_rows.ensures.printed }
