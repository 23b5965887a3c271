use Rattle.std.proofs.Common.{refl}
use Rattle.visitor.proofs.Pieces.{renamed}
use Rattle.writer.proofs.Addresses.{offset_past}
use Rattle.writer.proofs.displaying.DisplayingOperandVisitorOperandVisitor.visit_reg_deref_postindex_offset.Goals as goal

pub returns : goal.returns
returns g c = record { answered = record { text = renamed (offset_past c.args.base c.args.add c.args.offset) c.write_postindex.ensures; same = refl } }
