use Rattle.std.proofs.Common.{ap, refl}
use Rattle.armv7.specs.Faults.{refusal}
use Rattle.sink.proofs.Chain.{broke}
use Rattle.visitor.proofs.Pieces.{renamed}
use Rattle.lines.specs.Admission.{refused}
use Rattle.lines.specs.Lines.{line_of, line}
use Rattle.display.proofs.Unless.{printed_then, refused_then}
use Rattle.display.proofs.inst.visit_inst.Goals as goal

pub returns-in_err-form : goal.returns-in_err-form
returns-in_err-form g c =
    let i = c.args.instruction.now in
    let d = c.in_err-form.field-0.0 in
    record { printed_or_refused = refused_then g.T.DisplaySink.sink (refused i) (line i) (refusal d) c.in_err-form.ensures.refusal (broke c.from_residual.result d c.from_residual.ensures.1) refl }

pub returns : goal.returns
unfolding line
returns g c =
    let i = c.args.instruction.now in
    record { printed_or_refused = printed_then g.T.DisplaySink.sink (refused i) (line i) c.in_ok-form.ensures.refusal (renamed (ap line_of c.in_ok-form.ensures.shown) c.write_line.ensures.printed) }
