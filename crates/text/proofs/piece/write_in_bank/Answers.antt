use Rattle.std.proofs.Common.{ap}
use Rattle.armv7.specs.Banks.{bank_name}
use Rattle.sink.specs.Items.{text_items}
use Rattle.visitor.proofs.Pieces.{renamed, texts, text_stop}
use Rattle.text.proofs.piece.write_in_bank.Goals as goal

pub returns-in_err-write_text : goal.returns-in_err-write_text
returns-in_err-write_text g c =
    text_stop g.T.DisplaySink.sink c.args.front.now (bank_name c.args.bank) c.from_residual.result c.in_err-write_text.field-0.0 c.in_err-write_text.ensures.printed c.from_residual.ensures.1

pub returns : goal.returns
returns g c =
    texts g.T.DisplaySink.sink c.args.front.now (bank_name c.args.bank) c.in_ok-write_text.ensures.printed (renamed (ap text_items c.name.ensures.value) c.write_text-2.ensures.printed)
