use Rattle.std.proofs.Common.{arith, map, length, take, drop, ◌-◌, codes, ap}
use Rattle.std.proofs.lemmas.List.Elements.{All-take, All-drop}
use Rattle.sink.specs.Items.{text_items}
use Rattle.sink.proofs.Chain.{both, stop}
use Rattle.armv7.specs.declared.operand.Operand.TheVariants.{Reg as One}
use Rattle.armv7.specs.declared.reg.Reg.TheVariants.{R0}
use Rattle.visitor.specs.Operands.{operand_items}
use Rattle.visitor.specs.Texts.{followed}
use Rattle.visitor.proofs.Pieces.{renamed}
use Rattle.lines.specs.Admission.{HasText}
use Rattle.lines.specs.Lines.{behind_word}
use Rattle.display.proofs.Followed.{at, some_there, first_split, printed_at}
use Rattle.display.proofs.operands.write_operands.Goals as goal

pub returns-in_err-write_operand : goal.returns-in_err-write_operand
returns-in_err-write_operand g c =
    let sink = g.T.DisplaySink.sink in
    let os = c.args.reached.operands.now in
    let some = some_there os c.if-is_empty.ensures in
    let o = at os 0 in
    let r = c.from_residual-in_err-write_operand in
    record {
      printed = renamed (ap (λ l. behind_word (map operand_items l)) (first_split os some))
          (both sink (text_items (codes " ")) _ c.in_ok-write_text.ensures.printed
          (stop sink (operand_items o) (followed (map operand_items (take (length os - 1) (drop 1 os)))) r.result c.in_err-write_operand.field-0.0 (printed_at o (c.args.reached.clean 0 (One R0) some) c.in_err-write_operand.ensures.printed_or_refused) r.ensures.1));
    }

pub invariant_of-write_followed : goal.invariant_of-write_followed
invariant_of-write_followed g c = record { few = omega (arith, c.args.reached.few); clean = All-take HasText _ _ (All-drop HasText 1 _ c.args.reached.clean) }

pub returns : goal.returns
returns g c =
    let sink = g.T.DisplaySink.sink in
    let os = c.args.reached.operands.now in
    let some = some_there os c.if-is_empty.ensures in
    let o = at os 0 in
    record {
      printed = renamed (ap (λ l. behind_word (map operand_items l)) (first_split os some))
          (both sink (text_items (codes " ")) _ c.in_ok-write_text.ensures.printed
          (both sink (operand_items o) _ (printed_at o (c.args.reached.clean 0 (One R0) some) c.in_ok-write_operand.ensures.printed_or_refused) c.write_followed.ensures.printed));
    }
