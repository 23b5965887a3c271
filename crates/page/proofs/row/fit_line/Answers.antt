use Rattle.std.proofs.Common.{◌≡◌, ℕ, suc, ◌≤◌, cond, length, Some, None, Option, sym, refl, ap, arith, le-ltb}
use Rattle.armv7.specs.Faults.{Refusal, refused_with, no_operand}
use Rattle.armv7.specs.declared.instruction.Instruction.{Instruction}
use Rattle.sink.specs.Items.{bytes}
use Rattle.sink.specs.Meaning.{room}
use Rattle.lines.specs.Admission.{refused}
use Rattle.lines.specs.Lines.{line}
use Rattle.blocks.proofs.Bounds.{lines_bounded}
use Rattle.page.specs.Rows.{row_refused}
use Rattle.page.proofs.row.fit_line.Goals as goal

pub returns-then-room-gt-LONGEST-clause-fits : goal.returns-then-room-gt-LONGEST-clause-fits
returns-then-room-gt-LONGEST-clause-fits g c = by (refused i) refl
  where
    i : Instruction
    i = c.args.instruction.now

    left : ℕ
    left = room (g.S.DisplaySink.sink.meaning c.args.out.now)

    size : ℕ
    size = length (bytes (line i))

    by : (o : Option Refusal) → refused i ≡ o → o ≡ row_refused o left size
    by (Some why) e = refl
    by None e =
        let bounded = (lines_bounded i e).size in
        let room_is = c.room.ensures.room in
        let ample = c.if-room-gt-LONGEST.true in
        let short : suc size ≤ left = omega arith in
        sym (ap (λ b. cond b (Some (refused_with 10 no_operand)) None) (le-ltb left (suc size) short))
