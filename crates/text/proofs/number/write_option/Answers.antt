use Rattle.std.proofs.Common.{◌++◌, codes, ap, arith}
use Rattle.sink.specs.Items.{text_items}
use Rattle.visitor.specs.Texts.{prefixed}
use Rattle.visitor.proofs.Pieces.{renamed, texts, text_stop}
use Rattle.text.proofs.number.write_option.Goals as goal

pub returns-in_err-write_text : goal.returns-in_err-write_text
returns-in_err-write_text g c =
    let sink = g.T.DisplaySink.sink in
    record { printed = text_stop sink (codes "{") ((prefixed 2 c.args.number) ++ (codes "}")) c.from_residual.result c.in_err-write_text.field-0.0 c.in_err-write_text.ensures.printed c.from_residual.ensures.1 }

pub returns-in_err-write_prefixed : goal.returns-in_err-write_prefixed
returns-in_err-write_prefixed g c =
    let sink = g.T.DisplaySink.sink in
    let digits = renamed (ap (λ n. text_items (prefixed 2 n)) c.from.ensures) (c.in_err-write_prefixed.ensures.printed 2 (omega arith) (omega arith)) in
    record {
      printed = texts sink (codes "{") ((prefixed 2 c.args.number) ++ (codes "}")) c.in_ok-write_text.ensures.printed
          (text_stop sink (prefixed 2 c.args.number) (codes "}") c.from_residual-in_err-write_prefixed.result c.in_err-write_prefixed.field-0.0 digits c.from_residual-in_err-write_prefixed.ensures.1);
    }

pub returns : goal.returns
returns g c =
    let sink = g.T.DisplaySink.sink in
    let digits = renamed (ap (λ n. text_items (prefixed 2 n)) c.from.ensures) (c.in_ok-write_prefixed.ensures.printed 2 (omega arith) (omega arith)) in
    record {
      printed = texts sink (codes "{") ((prefixed 2 c.args.number) ++ (codes "}")) c.in_ok-write_text.ensures.printed
          (texts sink (prefixed 2 c.args.number) (codes "}") digits c.write_text-2.ensures.printed);
    }
