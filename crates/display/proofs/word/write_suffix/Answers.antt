use Rattle.std.proofs.Common.{codes}
use Rattle.visitor.specs.Texts.{flagged}
use Rattle.visitor.proofs.Pieces.{texts, text_stop}
use Rattle.lines.specs.Lines.{condition_suffix}
use Rattle.display.proofs.word.write_suffix.Goals as goal

pub returns-in_err-write_flagged : goal.returns-in_err-write_flagged
returns-in_err-write_flagged g c = record { printed = text_stop g.T.DisplaySink.sink (flagged c.args.suffix.s (codes "s")) _ c.from_residual.result c.in_err-write_flagged.field-0.0 c.in_err-write_flagged.ensures.printed c.from_residual.ensures.1 }

pub returns-in_err-write_condition : goal.returns-in_err-write_condition
returns-in_err-write_condition g c =
    let sink = g.T.DisplaySink.sink in
    let r = c.from_residual-in_err-write_condition in
    record {
      printed = texts sink (flagged c.args.suffix.s (codes "s")) _ c.in_ok-write_flagged.ensures.printed
          (text_stop sink (condition_suffix c.args.suffix.condition) _ r.result c.in_err-write_condition.field-0.0 c.in_err-write_condition.ensures.printed r.ensures.1);
    }

pub returns : goal.returns
returns g c =
    let sink = g.T.DisplaySink.sink in
    record {
      printed = texts sink (flagged c.args.suffix.s (codes "s")) _ c.in_ok-write_flagged.ensures.printed
          (texts sink (condition_suffix c.args.suffix.condition) _ c.in_ok-write_condition.ensures.printed c.write_flagged-2.ensures.printed);
    }
