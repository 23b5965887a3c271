use Rattle.std.proofs.Common.{cond, eqb, [], ◌++◌, codes, sym, ap}
use Rattle.sink.specs.Items.{text_items}
use Rattle.sink.proofs.Chain.{both, stop}
use Rattle.visitor.proofs.Pieces.{renamed}
use Rattle.lines.specs.Lines.{cps_letters}
use Rattle.display.proofs.Modes.{mode_items, cps_pieces}
use Rattle.display.proofs.system.write_cps.Goals as goal

pub returns-in_err-write_cps_flags : goal.returns-in_err-write_cps_flags
returns-in_err-write_cps_flags g c =
    let none = eqb c.args.flags 0 in
    let letters = cps_letters c.args.flags in
    record {
      printed = renamed (cps_pieces none letters c.args.mode)
          (stop g.T.DisplaySink.sink (cond none [] (text_items (codes " ") ++ text_items letters)) _ c.from_residual.result c.in_err-write_cps_flags.field-0.0 c.in_err-write_cps_flags.ensures.printed c.from_residual.ensures.1);
    }

pub returns : goal.returns
returns g c =
    let none = eqb c.args.flags 0 in
    let letters = cps_letters c.args.flags in
    record {
      printed = renamed (cps_pieces none letters c.args.mode)
          (both g.T.DisplaySink.sink (cond none [] (text_items (codes " ") ++ text_items letters)) _ c.in_ok-write_cps_flags.ensures.printed (renamed (ap (mode_items none) (sym c.in-Some.is)) c.write_cps_mode.ensures.printed));
    }
