use Rattle.std.proofs.Common.{◌++◌, codes}
use Rattle.sink.specs.Items.{text_items}
use Rattle.sink.proofs.Chain.{both, stop}
use Rattle.visitor.specs.Texts.{reg_items}
use Rattle.writer.proofs.address.write_preindex.Goals as goal

pub returns-in_err-write_base : goal.returns-in_err-write_base
returns-in_err-write_base g c =
    stop g.T.DisplaySink.sink (text_items (codes "[") ++ reg_items c.args.base) _ c.from_residual.result c.in_err-write_base.field-0.0 c.in_err-write_base.ensures c.from_residual.ensures.1

pub returns-in_err-write : goal.returns-in_err-write
returns-in_err-write g c =
    let sink = g.T.DisplaySink.sink in
    let r = c.from_residual-in_err-write in
    both sink (text_items (codes "[") ++ reg_items c.args.base) _ c.in_ok-write_base.ensures
    (stop sink (g.O.Offset.items c.args.offset c.args.add) _ r.result c.in_err-write.field-0.0 c.in_err-write.ensures r.ensures.1)

pub returns : goal.returns
returns g c =
    let sink = g.T.DisplaySink.sink in
    both sink (text_items (codes "[") ++ reg_items c.args.base) _ c.in_ok-write_base.ensures
    (both sink (g.O.Offset.items c.args.offset c.args.add) _ c.in_ok-write.ensures c.write_close.ensures)
