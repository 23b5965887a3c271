use Rattle.visitor.proofs.Pieces.{texts, text_stop}
use Rattle.display.proofs.word.write_mnemonic.Goals as goal

pub returns-in_err-write_text : goal.returns-in_err-write_text
returns-in_err-write_text g c = record { printed = text_stop g.T.DisplaySink.sink c.args.name.now _ c.from_residual.result c.in_err-write_text.field-0.0 c.in_err-write_text.ensures.printed c.from_residual.ensures.1 }

pub returns : goal.returns
returns g c = record { printed = texts g.T.DisplaySink.sink c.args.name.now _ c.in_ok-write_text.ensures.printed c.write_suffix.ensures.printed }
