use Rattle.std.proofs.Common.{codes}
use Rattle.sink.specs.Items.{text_items}
use Rattle.sink.proofs.Chain.{both, stop}
use Rattle.visitor.specs.Texts.{decimal}
use Rattle.display.proofs.rows.write_codes.Goals as goal

pub returns-in_err-write_text : goal.returns-in_err-write_text
returns-in_err-write_text g c =
    let sink = g.T.DisplaySink.sink in
    record { printed = stop sink (text_items (codes " p")) _ c.from_residual.result c.in_err-write_text.field-0.0 c.in_err-write_text.ensures.printed c.from_residual.ensures.1 }

pub returns-in_err-write_decimal : goal.returns-in_err-write_decimal
returns-in_err-write_decimal g c =
    let sink = g.T.DisplaySink.sink in
    let r = c.from_residual-in_err-write_decimal in
    record {
      printed = both sink (text_items (codes " p")) _ c.in_ok-write_text.ensures.printed
          (stop sink (text_items (decimal c.args.numbers.coprocessor)) _ r.result c.in_err-write_decimal.field-0.0 c.in_err-write_decimal.ensures.printed r.ensures.1);
    }

pub returns : goal.returns
returns g c =
    let sink = g.T.DisplaySink.sink in
    record {
      printed = both sink (text_items (codes " p")) _ c.in_ok-write_text.ensures.printed
          (both sink (text_items (decimal c.args.numbers.coprocessor)) _ c.in_ok-write_decimal.ensures.printed c.write_code.ensures.printed);
    }
