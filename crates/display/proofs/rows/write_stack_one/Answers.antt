use Rattle.std.proofs.Common.{codes}
use Rattle.sink.specs.declared.sink.Span.TheVariants.{Register}
use Rattle.sink.specs.Items.{text_items, within}
use Rattle.sink.proofs.Chain.{both, stop}
use Rattle.visitor.specs.Texts.{reg_items}
use Rattle.visitor.proofs.Pieces.{renamed}
use Rattle.display.proofs.Behind.{one_around}
use Rattle.display.proofs.rows.write_stack_one.Goals as goal

pub returns-in_err-write_text : goal.returns-in_err-write_text
returns-in_err-write_text g c =
    let sink = g.T.DisplaySink.sink in
    record { printed = renamed (one_around c.args.reg) (stop sink (text_items (codes " {")) _ c.from_residual.result c.in_err-write_text.field-0.0 c.in_err-write_text.ensures.printed c.from_residual.ensures.1) }

pub returns-in_err-write_twice_spanned : goal.returns-in_err-write_twice_spanned
returns-in_err-write_twice_spanned g c =
    let sink = g.T.DisplaySink.sink in
    let r = c.from_residual-in_err-write_twice_spanned in
    record {
      printed = renamed (one_around c.args.reg) (both sink (text_items (codes " {")) _ c.in_ok-write_text.ensures.printed
          (stop sink (within Register (reg_items c.args.reg)) (text_items (codes "}")) r.result c.in_err-write_twice_spanned.field-0.0 c.in_err-write_twice_spanned.ensures.printed r.ensures.1));
    }

pub returns : goal.returns
returns g c =
    let sink = g.T.DisplaySink.sink in
    record {
      printed = renamed (one_around c.args.reg) (both sink (text_items (codes " {")) _ c.in_ok-write_text.ensures.printed
          (both sink (within Register (reg_items c.args.reg)) _ c.in_ok-write_twice_spanned.ensures.printed c.write_text-2.ensures.printed));
    }
