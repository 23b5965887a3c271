use Rattle.std.proofs.Common.{refl, ap, arith}
use Rattle.sink.specs.Items.{text_items}
use Rattle.visitor.specs.Texts.{prefixed}
use Rattle.visitor.proofs.Pieces.{renamed}
use Rattle.writer.proofs.displaying.DisplayingOperandVisitorOperandVisitor.visit_imm12.Goals as goal

pub returns : goal.returns
returns g c = record {
  answered = record {
    text = renamed (ap (λ n. text_items (prefixed 4 n)) c.from.ensures) (c.write_prefixed.ensures.printed 4 (omega arith) (omega arith));
    same = refl;
  };
}
