use Rattle.std.proofs.Common.{codes}
use Rattle.sink.specs.Items.{text_items}
use Rattle.sink.proofs.Chain.{both, stop}
use Rattle.visitor.specs.Texts.{reg_items}
use Rattle.writer.proofs.address.write_base.Goals as goal

pub returns-in_err-write_text : goal.returns-in_err-write_text
returns-in_err-write_text g c =
    let sink = g.T.DisplaySink.sink in
    stop sink (text_items (codes "[")) (reg_items c.args.base) c.from_residual.result c.in_err-write_text.field-0.0 c.in_err-write_text.ensures.printed c.from_residual.ensures.1

pub returns : goal.returns
returns g c =
    let sink = g.T.DisplaySink.sink in
    both sink (text_items (codes "[")) _ c.in_ok-write_text.ensures.printed c.write_reg.ensures.printed
