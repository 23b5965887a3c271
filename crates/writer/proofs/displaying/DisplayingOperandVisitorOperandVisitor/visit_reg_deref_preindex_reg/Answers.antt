use Rattle.std.proofs.Common.{refl}
use Rattle.visitor.proofs.Pieces.{renamed}
use Rattle.writer.proofs.Addresses.{reg_inside}
use Rattle.writer.proofs.displaying.DisplayingOperandVisitorOperandVisitor.visit_reg_deref_preindex_reg.Goals as goal

pub returns : goal.returns
returns g c = record { answered = record { text = renamed (reg_inside c.args.base c.args.add c.args.offset c.args.wback) c.write_preindex.ensures; same = refl } }
