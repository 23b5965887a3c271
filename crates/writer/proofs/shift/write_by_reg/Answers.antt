use Rattle.std.proofs.Common.{◌++◌}
use Rattle.sink.specs.Items.{text_items}
use Rattle.sink.proofs.Chain.{both, stop}
use Rattle.visitor.specs.Texts.{reg_items, style_text}
use Rattle.writer.proofs.shift.write_by_reg.Goals as goal

pub returns-in_err-write_reg : goal.returns-in_err-write_reg
returns-in_err-write_reg g c =
    let sink = g.T.DisplaySink.sink in
    record { printed = stop sink (reg_items c.args.shift.shiftee) (text_items (style_text c.args.shift.stype) ++ reg_items c.args.shift.shifter) c.from_residual.result c.in_err-write_reg.field-0.0 c.in_err-write_reg.ensures.printed c.from_residual.ensures.1 }

pub returns-in_err-write_style : goal.returns-in_err-write_style
returns-in_err-write_style g c =
    let sink = g.T.DisplaySink.sink in
    let r = c.from_residual-in_err-write_style in
    record {
      printed = both sink (reg_items c.args.shift.shiftee) _ c.in_ok-write_reg.ensures.printed
          (stop sink (text_items (style_text c.args.shift.stype)) (reg_items c.args.shift.shifter) r.result c.in_err-write_style.field-0.0 c.in_err-write_style.ensures.printed r.ensures.1);
    }

pub returns : goal.returns
returns g c =
    let sink = g.T.DisplaySink.sink in
    record {
      printed = both sink (reg_items c.args.shift.shiftee) _ c.in_ok-write_reg.ensures.printed
          (both sink (text_items (style_text c.args.shift.stype)) _ c.in_ok-write_style.ensures.printed c.write_reg-2.ensures.printed);
    }
