use Rattle.std.proofs.Common.{◌++◌, codes, rules}
use Rattle.armv7.specs.Banks.{bank_name}
use Rattle.sink.specs.Items.{text_items}
use Rattle.text.proofs.piece.write_banked_spsr.Goals as goal

pub returns : goal.returns
returns g c = record { printed = c.in_register_span.ensures (text_items (codes "spsr_" ++ bank_name c.args.bank)) (λ s r t e. search rules) }
