use Rattle.std.proofs.Common.{map, codes, sym, ap, append-nil}
use Rattle.kind.specs.Kinds.{optional}
use Rattle.sink.specs.Items.{text_items}
use Rattle.sink.proofs.Chain.{both, stop}
use Rattle.visitor.specs.Texts.{followed, decimal}
use Rattle.visitor.proofs.Pieces.{renamed}
use Rattle.lines.specs.Lines.{code_row}
use Rattle.display.proofs.rows.write_code.Goals as goal

pub returns-in_err-write_text : goal.returns-in_err-write_text
returns-in_err-write_text g c =
    record {
      printed = renamed (ap (λ o. followed (map code_row (optional o))) (sym c.in-Some.is))
          (stop g.T.DisplaySink.sink (text_items (codes ", ")) _ c.from_residual.result c.in_err-write_text.field-0.0 c.in_err-write_text.ensures.printed c.from_residual.ensures.1);
    }

pub returns : goal.returns
returns g c =
    let number = c.in-Some.number in
    record {
      printed = renamed (ap (λ o. followed (map code_row (optional o))) (sym c.in-Some.is))
          (both g.T.DisplaySink.sink (text_items (codes ", ")) _ c.in_ok-write_text.ensures.printed (renamed (sym (append-nil (text_items (decimal number)))) c.write_decimal.ensures.printed));
    }
