use Rattle.std.proofs.Common.{[], ◌∷◌}
use Rattle.sink.specs.declared.sink.Edge.TheVariants.{Start, End}
use Rattle.sink.specs.declared.sink.Span.TheVariants.{Register}
use Rattle.sink.specs.Items.{edge, text_items}
use Rattle.sink.proofs.Chain.{both, stop, edged}
use Rattle.text.proofs.piece.write_spanned.Goals as goal

pub returns-in_err-write_text : goal.returns-in_err-write_text
returns-in_err-write_text g c =
    let sink = g.T.DisplaySink.sink in
    let start = c.span_start_register.ensures in
    record { printed = both sink (edge Start Register ∷ []) _ (edged sink Start Register start.marked) (stop sink (text_items c.args.name.now) (edge End Register ∷ []) c.from_residual.result c.in_err-write_text.field-0.0 c.in_err-write_text.ensures.printed c.from_residual.ensures.1) }

pub returns : goal.returns
returns g c =
    let sink = g.T.DisplaySink.sink in
    let start = c.span_start_register.ensures in
    let end = c.span_end_register.ensures in
    record { printed = both sink (edge Start Register ∷ []) _ (edged sink Start Register start.marked) (both sink (text_items c.args.name.now) _ c.in_ok-write_text.ensures.printed (edged sink End Register end.marked)) }
