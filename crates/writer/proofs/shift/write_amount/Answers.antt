use Rattle.std.proofs.Common.{◌≡◌, sym, ap, ap₂, arith}
use Rattle.sink.specs.Items.{text_items}
use Rattle.sink.proofs.Chain.{nothing}
use Rattle.visitor.specs.Texts.{amount_text}
use Rattle.visitor.proofs.Pieces.{renamed}
use Rattle.writer.proofs.Choices.{counted, full}
use Rattle.writer.proofs.shift.write_amount.Goals as goal

pub returns-then-amount-gt0 : goal.returns-then-amount-gt0
returns-then-amount-gt0 g c = record { printed = renamed (ap text_items (counted c.args.stype c.args.amount (λ z. omega arith))) c.write_counted.ensures.printed }

pub returns-in-LSL : goal.returns-in-LSL
returns-in-LSL g c =
    let none : c.args.amount ≡ 0 = omega arith in
    record { printed = renamed (ap₂ (λ s n. text_items (amount_text s n)) (sym c.in-LSL.is) (sym none)) (nothing g.T.DisplaySink.sink c.args.out.now) }

pub returns-in-LSR : goal.returns-in-LSR
returns-in-LSR g c = record { printed = renamed (ap text_items (full c.args.stype c.args.amount c.in-LSR.is (omega arith))) c.write_counted-in-LSR.ensures.printed }

pub returns-in-ROR : goal.returns-in-ROR
returns-in-ROR g c =
    let none : c.args.amount ≡ 0 = omega arith in
    record { printed = renamed (ap₂ (λ s n. text_items (amount_text s n)) (sym c.in-ROR.is) (sym none)) c.write_text.ensures.printed }
