use Rattle.std.proofs.Common.{sym, ap}
use Rattle.sink.specs.Items.{text_items}
use Rattle.sink.proofs.Chain.{nothing}
use Rattle.visitor.specs.Texts.{flagged}
use Rattle.visitor.proofs.Pieces.{renamed}
use Rattle.text.proofs.piece.write_flagged.Goals as goal

pub returns-then-flag : goal.returns-then-flag
returns-then-flag g c = record { printed = renamed (ap (λ b. text_items (flagged b c.args.text.now)) (sym c.if-flag.true)) c.write_text.ensures.printed }

pub returns-else-flag : goal.returns-else-flag
returns-else-flag g c = record { printed = renamed (ap (λ b. text_items (flagged b c.args.text.now)) (sym c.if-flag.false)) (nothing g.T.DisplaySink.sink c.args.out.now) }
