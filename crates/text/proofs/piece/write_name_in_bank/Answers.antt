use Rattle.std.proofs.Common.{◌++◌, codes}
use Rattle.armv7.specs.Banks.{bank_name}
use Rattle.visitor.proofs.Pieces.{texts, text_stop}
use Rattle.text.proofs.piece.write_name_in_bank.Goals as goal

pub returns-in_err-write_text : goal.returns-in_err-write_text
returns-in_err-write_text g c =
    text_stop g.T.DisplaySink.sink c.args.word.now (codes "_" ++ bank_name c.args.bank) c.from_residual.result c.in_err-write_text.field-0.0 c.in_err-write_text.ensures.printed c.from_residual.ensures.1

pub returns : goal.returns
returns g c = texts g.T.DisplaySink.sink c.args.word.now (codes "_" ++ bank_name c.args.bank) c.in_ok-write_text.ensures.printed c.write_in_bank.ensures
