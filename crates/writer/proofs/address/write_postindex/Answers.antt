use Rattle.armv7.specs.declared.operand.Operand.TheVariants.{RegDeref}
use Rattle.sink.proofs.Chain.{both, stop}
use Rattle.visitor.specs.Operands.{operand_items}
use Rattle.writer.proofs.address.write_postindex.Goals as goal

pub returns-in_err-write_deref : goal.returns-in_err-write_deref
returns-in_err-write_deref g c =
    stop g.T.DisplaySink.sink (operand_items (RegDeref c.args.base)) _ c.from_residual.result c.in_err-write_deref.field-0.0 c.in_err-write_deref.ensures c.from_residual.ensures.1

pub returns-in_err-write : goal.returns-in_err-write
returns-in_err-write g c =
    let sink = g.T.DisplaySink.sink in
    let r = c.from_residual-in_err-write in
    both sink (operand_items (RegDeref c.args.base)) _ c.in_ok-write_deref.ensures
    (stop sink (g.O.Offset.items c.args.offset c.args.add) _ r.result c.in_err-write.field-0.0 c.in_err-write.ensures r.ensures.1)

pub returns : goal.returns
returns g c =
    let sink = g.T.DisplaySink.sink in
    both sink (operand_items (RegDeref c.args.base)) _ c.in_ok-write_deref.ensures
    (both sink (g.O.Offset.items c.args.offset c.args.add) _ c.in_ok-write.ensures c.write_flagged.ensures.printed)
