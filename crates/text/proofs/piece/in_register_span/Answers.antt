use Rattle.std.proofs.Common.{[], ◌∷◌}
use Rattle.sink.specs.declared.sink.Edge.TheVariants.{Start, End}
use Rattle.sink.specs.declared.sink.Span.TheVariants.{Register}
use Rattle.sink.specs.Items.{edge}
use Rattle.sink.proofs.Chain.{both, stop, edged}
use Rattle.text.proofs.piece.in_register_span.Goals as goal

pub returns-in_err-write : goal.returns-in_err-write
returns-in_err-write g c is writes =
    let sink = g.T.DisplaySink.sink in
    let start = c.span_start_register.ensures in
    both sink (edge Start Register ∷ []) _ (edged sink Start Register start.marked)
    (stop sink is (edge End Register ∷ []) c.from_residual.result c.in_err-write.field-0.0 (writes _ _ _ c.in_err-write.ensures) c.from_residual.ensures.1)

pub returns : goal.returns
returns g c is writes =
    let sink = g.T.DisplaySink.sink in
    let start = c.span_start_register.ensures in
    let end = c.span_end_register.ensures in
    both sink (edge Start Register ∷ []) _ (edged sink Start Register start.marked)
    (both sink is _ (writes _ _ _ c.in_ok-write.ensures) (edged sink End Register end.marked))
