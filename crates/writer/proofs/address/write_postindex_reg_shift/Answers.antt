use Rattle.std.proofs.Common.{◌++◌, codes}
use Rattle.armv7.specs.Shifts.{shift_fields, shift_word}
use Rattle.sink.specs.Items.{text_items}
use Rattle.sink.proofs.Chain.{both, stop}
use Rattle.visitor.specs.Operands.{minus}
use Rattle.visitor.specs.Texts.{reg_items, shift_items}
use Rattle.writer.proofs.address.write_postindex_reg_shift.Goals as goal

pub returns-in_err-write_base : goal.returns-in_err-write_base
returns-in_err-write_base g c =
    let sink = g.T.DisplaySink.sink in
    stop sink (text_items (codes "[") ++ reg_items c.args.base) ((text_items (codes "], " ++ (minus c.args.add ++ codes " "))) ++ (shift_items (shift_fields (shift_word c.args.shift)))) c.from_residual.result c.in_err-write_base.field-0.0 c.in_err-write_base.ensures c.from_residual.ensures.1

pub returns-in_err-write_past_blank : goal.returns-in_err-write_past_blank
returns-in_err-write_past_blank g c =
    let sink = g.T.DisplaySink.sink in
    both sink (text_items (codes "[") ++ reg_items c.args.base) _ c.in_ok-write_base.ensures
    (stop sink (text_items (codes "], " ++ (minus c.args.add ++ codes " "))) (shift_items (shift_fields (shift_word c.args.shift))) c.from_residual-in_err-write_past_blank.result c.in_err-write_past_blank.field-0.0 c.in_err-write_past_blank.ensures c.from_residual-in_err-write_past_blank.ensures.1)

pub returns : goal.returns
returns g c =
    let sink = g.T.DisplaySink.sink in
    both sink (text_items (codes "[") ++ reg_items c.args.base) _ c.in_ok-write_base.ensures
    (both sink (text_items (codes "], " ++ (minus c.args.add ++ codes " "))) _ c.in_ok-write_past_blank.ensures c.write_shift.ensures.printed)
