use Rattle.std.proofs.Common.{◌++◌, codes, ap, ◌∙◌, arith}
use Rattle.sink.specs.Items.{text_items}
use Rattle.visitor.specs.Texts.{prefixed}
use Rattle.visitor.proofs.Pieces.{renamed}
use Rattle.text.proofs.Hex.{same_digits}
use Rattle.text.proofs.number.write_prefixed.Goals as goal

pub returns : goal.returns
returns g c = record {
  printed = λ k some fits.
      renamed (ap (λ n. text_items (prefixed 8 n)) c.from.ensures ∙ ap (λ ds. text_items (codes "0x" ++ ds)) (same_digits 8 k c.args.number (omega arith) some (omega arith) fits))
      c.write_last_digits.ensures;
}
