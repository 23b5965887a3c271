use Rattle.std.proofs.Common.{List, [], ◌∷◌, Some, None, Option, subst}
use Rattle.armv7.specs.Faults.{Refusal}
use Rattle.sink.specs.Items.{Item, byte}
use Rattle.sink.specs.Meaning.{SinkOf}
use Rattle.sink.specs.Outcome.{outcome}
use Rattle.sink.specs.Printed.{Printed}
use Rattle.sink.proofs.Chain.{both}
use Rattle.visitor.specs.Visits.{PrintedUnless, PrintsUnless}
use Rattle.lines.specs.Admission.{refused}
use Rattle.lines.specs.Lines.{line}
use Rattle.page.specs.Rows.{row}
use Rattle.page.proofs.Fits.{clash}
use Rattle.page.proofs.row.write_line.Goals as goal

-- a line break behind a line that was printed
broken : {S : Type 0} (sink : SinkOf S) (o : Option Refusal) (is : List Item) (s m t : S) (r : Option Refusal) → PrintedUnless sink o is s None m → Printed sink (byte 10 ∷ []) m r t → PrintedUnless sink o (row is) s r t
broken sink None is s m t r p q = both sink is (byte 10 ∷ []) p q
broken sink (Some why) is s m t r p q = let told = p.told in clash cc

pub returns : goal.returns
returns g c =
    let i = c.args.instruction.now in
    let printed = broken g.S.DisplaySink.sink (refused i) (line i) c.args.out.now c.visit_inst.new.out c.write_text.new.out (outcome c.write_text.result) c.in_ok-visit_inst.ensures.printed_or_refused c.write_text.ensures.printed in
    record { printed_or_refused = subst (λ o. PrintsUnless g.S.DisplaySink.sink o (row (line i)) c.args.out.now c.write_text.result c.write_text.new.out) c.in_ok-fit_line.ensures.fits printed }
