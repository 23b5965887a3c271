use Rattle.std.proofs.Common.{refl}
use Rattle.visitor.proofs.Pieces.{renamed}
use Rattle.writer.proofs.Addresses.{shift_inside}
use Rattle.writer.proofs.displaying.DisplayingOperandVisitorOperandVisitor.visit_reg_deref_preindex_reg_shift.Goals as goal

pub returns : goal.returns
returns g c = record { answered = record { text = renamed (shift_inside c.args.base c.args.add c.args.shift c.args.wback) c.write_preindex.ensures; same = refl } }
