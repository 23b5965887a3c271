use Rattle.std.proofs.Common.{cond, [], ◌++◌, codes, sym, ap, eq-eqb, ne_eqb}
use Rattle.sink.specs.Items.{text_items}
use Rattle.sink.proofs.Chain.{both, nothing}
use Rattle.visitor.proofs.Pieces.{renamed}
use Rattle.lines.specs.Lines.{cps_letters}
use Rattle.display.proofs.system.write_cps_flags.Goals as goal

pub returns-then-flags-eq0 : goal.returns-then-flags-eq0
returns-then-flags-eq0 g c = record { printed = renamed (ap (λ b. cond b [] (text_items (codes " ") ++ text_items (cps_letters c.args.flags))) (sym (eq-eqb c.args.flags 0 c.if-flags-eq0.true))) (nothing g.T.DisplaySink.sink c.args.out.now) }

pub returns : goal.returns
returns g c =
    record {
      printed = renamed (ap (λ b. cond b [] (text_items (codes " ") ++ text_items (cps_letters c.args.flags))) (sym (ne_eqb c.args.flags 0 c.if-flags-eq0.false)))
          (both g.T.DisplaySink.sink (text_items (codes " ")) _ c.in_ok-write_text.ensures.printed c.write_cps_letters.ensures.printed);
    }
