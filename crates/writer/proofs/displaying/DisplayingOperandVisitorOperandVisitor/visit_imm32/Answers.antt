use Rattle.std.proofs.Common.{refl, arith}
use Rattle.writer.proofs.displaying.DisplayingOperandVisitorOperandVisitor.visit_imm32.Goals as goal

pub returns : goal.returns
returns g c = record { answered = record { text = c.write_prefixed.ensures.printed 8 (omega arith) (omega arith); same = refl } }
