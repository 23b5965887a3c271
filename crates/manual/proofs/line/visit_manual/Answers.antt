use Rattle.std.proofs.Common.{sym, ap, refl, ◌∙◌}
use Rattle.armv7.specs.Faults.{refusal}
use Rattle.sink.proofs.Chain.{broke}
use Rattle.visitor.proofs.Pieces.{renamed}
use Rattle.display.proofs.Unless.{printed_then, refused_then}
use Rattle.lines.specs.Forms.{moved_in}
use Rattle.lines.specs.Moved.{stacked, transferred}
use Rattle.manual.specs.Lines.{manual_refused, manual_line}
use Rattle.manual.proofs.Found.{nothing_moved, refused_first, refused_found, line_found}
use Rattle.manual.proofs.line.visit_manual.Goals as goal

pub returns-in_err-form : goal.returns-in_err-form
returns-in_err-form g c =
    let i = c.args.instruction.now in
    let bare = c.bare-instruction in
    let d = c.in_err-form.field-0.0 in
    record {
      printed = refused_then g.T.DisplaySink.sink (manual_refused i) (manual_line i) (refusal d) (refused_first i bare.result bare.ensures.bare (refusal d) c.in_err-form.ensures.refusal) (broke c.from_residual.result d c.from_residual.ensures.1) refl;
    }

pub returns-in-Stack : goal.returns-in-Stack
returns-in-Stack g c =
    let i = c.args.instruction.now in
    let bare = c.bare-instruction in
    let told = c.in_ok-form.ensures in
    let found = sym (ap moved_in c.in-Stack.is) ∙ told.moves in
    record {
      printed = printed_then g.T.DisplaySink.sink (manual_refused i) (manual_line i) (refused_found i bare.result bare.ensures.bare told.refusal found)
          (renamed (line_found i bare.result bare.ensures.bare (stacked c.in-Stack.form) found) c.write_stack_line.ensures.printed);
    }

pub returns-in-Block : goal.returns-in-Block
returns-in-Block g c =
    let i = c.args.instruction.now in
    let bare = c.bare-instruction in
    let told = c.in_ok-form.ensures in
    let found = sym (ap moved_in c.in-Block.is) ∙ told.moves in
    record {
      printed = printed_then g.T.DisplaySink.sink (manual_refused i) (manual_line i) (refused_found i bare.result bare.ensures.bare told.refusal found)
          (renamed (line_found i bare.result bare.ensures.bare (transferred c.in-Block.block) found) c.write_line.ensures.printed);
    }

pub returns-in_default : goal.returns-in_default
returns-in_default g c =
    let i = c.args.instruction.now in
    let bare = c.bare-instruction in
    let told = c.in_ok-form.ensures in
    let none = nothing_moved c.in_ok-form.field-0 c.in_default.not-Stack c.in_default.not-Block in
    record {
      printed = refused_then g.T.DisplaySink.sink (manual_refused i) (manual_line i) _ (refused_found i bare.result bare.ensures.bare told.refusal (sym none ∙ told.moves)) refl refl;
    }
