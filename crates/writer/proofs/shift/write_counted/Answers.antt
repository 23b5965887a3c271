use Rattle.visitor.specs.Texts.{style_text, decimal}
use Rattle.visitor.proofs.Pieces.{texts, text_stop}
use Rattle.writer.proofs.shift.write_counted.Goals as goal

pub returns-in_err-write_style : goal.returns-in_err-write_style
returns-in_err-write_style g c =
    let sink = g.T.DisplaySink.sink in
    record { printed = text_stop sink (style_text c.args.stype) (decimal c.args.number) c.from_residual.result c.in_err-write_style.field-0.0 c.in_err-write_style.ensures.printed c.from_residual.ensures.1 }

pub returns : goal.returns
returns g c =
    let sink = g.T.DisplaySink.sink in
    record { printed = texts sink (style_text c.args.stype) (decimal c.args.number) c.in_ok-write_style.ensures.printed c.write_decimal.ensures.printed }
