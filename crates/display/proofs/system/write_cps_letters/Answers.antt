use Rattle.std.proofs.Common.{◌/◌, ◌%◌, eqb, codes}
use Rattle.visitor.specs.Texts.{flagged}
use Rattle.visitor.proofs.Pieces.{texts, text_stop}
use Rattle.display.proofs.system.write_cps_letters.Goals as goal

pub returns-in_err-write_flagged : goal.returns-in_err-write_flagged
returns-in_err-write_flagged g c = record { printed = text_stop g.T.DisplaySink.sink (flagged (eqb (c.args.flags / 4 % 2) 1) (codes "a")) _ c.from_residual.result c.in_err-write_flagged.field-0.0 c.in_err-write_flagged.ensures.printed c.from_residual.ensures.1 }

pub returns-in_err-write_flagged-2 : goal.returns-in_err-write_flagged-2
returns-in_err-write_flagged-2 g c =
    let sink = g.T.DisplaySink.sink in
    let r = c.from_residual-in_err-write_flagged-2 in
    record {
      printed = texts sink (flagged (eqb (c.args.flags / 4 % 2) 1) (codes "a")) _ c.in_ok-write_flagged.ensures.printed
          (text_stop sink (flagged (eqb (c.args.flags / 2 % 2) 1) (codes "i")) _ r.result c.in_err-write_flagged-2.field-0.0 c.in_err-write_flagged-2.ensures.printed r.ensures.1);
    }

pub returns : goal.returns
returns g c =
    let sink = g.T.DisplaySink.sink in
    record {
      printed = texts sink (flagged (eqb (c.args.flags / 4 % 2) 1) (codes "a")) _ c.in_ok-write_flagged.ensures.printed
          (texts sink (flagged (eqb (c.args.flags / 2 % 2) 1) (codes "i")) _ c.in_ok-write_flagged-2.ensures.printed c.write_flagged-3.ensures.printed);
    }
