use Rattle.std.proofs.Common.{◌++◌, codes}
use Rattle.sink.specs.Items.{text_items}
use Rattle.sink.proofs.Chain.{both, stop}
use Rattle.visitor.specs.Texts.{reg_items}
use Rattle.writer.proofs.address.write_deref.Goals as goal

pub returns-in_err-write_base : goal.returns-in_err-write_base
returns-in_err-write_base g c =
    let sink = g.T.DisplaySink.sink in
    stop sink (text_items (codes "[") ++ reg_items c.args.reg) (text_items (codes "]")) c.from_residual.result c.in_err-write_base.field-0.0 c.in_err-write_base.ensures c.from_residual.ensures.1

pub returns : goal.returns
returns g c =
    let sink = g.T.DisplaySink.sink in
    both sink (text_items (codes "[") ++ reg_items c.args.reg) _ c.in_ok-write_base.ensures c.write_text.ensures.printed
