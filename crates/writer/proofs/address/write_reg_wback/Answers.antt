use Rattle.sink.specs.Items.{text_items}
use Rattle.sink.proofs.Chain.{both, stop}
use Rattle.visitor.specs.Operands.{bang}
use Rattle.visitor.specs.Texts.{reg_items}
use Rattle.writer.proofs.address.write_reg_wback.Goals as goal

pub returns-in_err-write_reg : goal.returns-in_err-write_reg
returns-in_err-write_reg g c =
    let sink = g.T.DisplaySink.sink in
    record { printed = stop sink (reg_items c.args.reg) (text_items (bang c.args.wback)) c.from_residual.result c.in_err-write_reg.field-0.0 c.in_err-write_reg.ensures.printed c.from_residual.ensures.1 }

pub returns : goal.returns
returns g c =
    let sink = g.T.DisplaySink.sink in
    record { printed = both sink (reg_items c.args.reg) _ c.in_ok-write_reg.ensures.printed c.write_flagged.ensures.printed }
