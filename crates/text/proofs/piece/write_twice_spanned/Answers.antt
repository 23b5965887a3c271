use Rattle.std.proofs.Common.{rules}
use Rattle.visitor.specs.Texts.{reg_items}
use Rattle.text.proofs.piece.write_twice_spanned.Goals as goal

pub returns : goal.returns
returns g c = record { printed = c.in_register_span.ensures (reg_items c.args.reg) (λ s r t e. search rules) }
