use Rattle.sink.specs.Items.{text_items}
use Rattle.sink.proofs.Chain.{both, stop}
use Rattle.visitor.specs.Texts.{reg_items, amount_text}
use Rattle.writer.proofs.shift.write_by_amount.Goals as goal

pub returns-in_err-write_reg : goal.returns-in_err-write_reg
returns-in_err-write_reg g c =
    let sink = g.T.DisplaySink.sink in
    record { printed = stop sink (reg_items c.args.shift.shiftee) (text_items (amount_text c.args.shift.stype c.args.shift.imm)) c.from_residual.result c.in_err-write_reg.field-0.0 c.in_err-write_reg.ensures.printed c.from_residual.ensures.1 }

pub returns : goal.returns
returns g c =
    let sink = g.T.DisplaySink.sink in
    record { printed = both sink (reg_items c.args.shift.shiftee) _ c.in_ok-write_reg.ensures.printed c.write_amount.ensures.printed }
