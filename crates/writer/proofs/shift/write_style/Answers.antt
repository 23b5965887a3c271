use Rattle.std.proofs.Common.{◌++◌, codes, ap}
use Rattle.armv7.specs.Shifts.{style_name}
use Rattle.sink.specs.Items.{text_items}
use Rattle.visitor.proofs.Pieces.{renamed, texts, text_stop}
use Rattle.writer.proofs.shift.write_style.Goals as goal

pub returns-in_err-write_text : goal.returns-in_err-write_text
returns-in_err-write_text g c =
    record { printed = text_stop g.T.DisplaySink.sink (codes ", ") (style_name c.args.stype ++ codes " ") c.from_residual.result c.in_err-write_text.field-0.0 c.in_err-write_text.ensures.printed c.from_residual.ensures.1 }

pub returns-in_err-write_text-2 : goal.returns-in_err-write_text-2
returns-in_err-write_text-2 g c =
    let sink = g.T.DisplaySink.sink in
    let r = c.from_residual-in_err-write_text-2 in
    record {
      printed = texts sink (codes ", ") (style_name c.args.stype ++ codes " ") c.in_ok-write_text.ensures.printed
          (text_stop sink (style_name c.args.stype) (codes " ") r.result c.in_err-write_text-2.field-0.0 (renamed (ap text_items c.name.ensures.value) c.in_err-write_text-2.ensures.printed) r.ensures.1);
    }

pub returns : goal.returns
returns g c =
    let sink = g.T.DisplaySink.sink in
    record {
      printed = texts sink (codes ", ") (style_name c.args.stype ++ codes " ") c.in_ok-write_text.ensures.printed
          (texts sink (style_name c.args.stype) (codes " ") (renamed (ap text_items c.name.ensures.value) c.in_ok-write_text-2.ensures.printed) c.write_text-3.ensures.printed);
    }
