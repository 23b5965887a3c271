use Rattle.std.proofs.Common.{codes, sym, append-nil}
use Rattle.sink.specs.Items.{text_items}
use Rattle.sink.proofs.Chain.{both, stop}
use Rattle.visitor.proofs.Pieces.{renamed}
use Rattle.visitor.specs.Texts.{list_items}
use Rattle.display.proofs.rows.write_stack_list.Goals as goal

pub returns-in_err-write_text : goal.returns-in_err-write_text
returns-in_err-write_text g c =
    let sink = g.T.DisplaySink.sink in
    record { printed = stop sink (text_items (codes " ")) _ c.from_residual.result c.in_err-write_text.field-0.0 c.in_err-write_text.ensures.printed c.from_residual.ensures.1 }

pub returns : goal.returns
returns g c =
    let sink = g.T.DisplaySink.sink in
    record { printed = both sink (text_items (codes " ")) _ c.in_ok-write_text.ensures.printed (renamed (sym (append-nil (list_items c.args.registers))) c.write_list.ensures.printed) }
