use Rattle.std.proofs.Common.{refl}
use Rattle.visitor.proofs.Pieces.{renamed}
use Rattle.writer.proofs.Addresses.{reg_past}
use Rattle.writer.proofs.displaying.DisplayingOperandVisitorOperandVisitor.visit_reg_deref_postindex_reg.Goals as goal

pub returns : goal.returns
returns g c = record { answered = record { text = renamed (reg_past c.args.base c.args.add c.args.offset c.args.wback) c.write_postindex.ensures; same = refl } }
