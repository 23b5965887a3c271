use Rattle.std.proofs.Common.{◌++◌, codes}
use Rattle.armv7.specs.Shifts.{shift_fields, shift_word}
use Rattle.sink.specs.Items.{text_items}
use Rattle.sink.proofs.Chain.{both, stop}
use Rattle.visitor.specs.Operands.{minus}
use Rattle.visitor.specs.Texts.{shift_items}
use Rattle.writer.proofs.address.RegShiftOffset.write.Goals as goal

pub returns-in_err-write_comma : goal.returns-in_err-write_comma
returns-in_err-write_comma g c =
    stop g.T.DisplaySink.sink (text_items (codes ", " ++ minus c.args.add)) (shift_items (shift_fields (shift_word c.args.self))) c.from_residual.result c.in_err-write_comma.field-0.0 c.in_err-write_comma.ensures c.from_residual.ensures.1

pub returns : goal.returns
returns g c = both g.T.DisplaySink.sink (text_items (codes ", " ++ minus c.args.add)) _ c.in_ok-write_comma.ensures c.write_shift.ensures.printed
