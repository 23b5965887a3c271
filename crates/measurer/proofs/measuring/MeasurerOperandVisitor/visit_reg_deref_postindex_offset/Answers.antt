use Rattle.std.proofs.Common.{sym, refl, ◌∙◌, arith}
use Rattle.measurer.proofs.Sizes.{postindex_offset_size}
use Rattle.measurer.proofs.measuring.MeasurerOperandVisitor.visit_reg_deref_postindex_offset.Goals as goal

pub returns : goal.returns
returns c = record { answered = record { measured = record { told = refl; size = omega arith ∙ sym (postindex_offset_size c.args.base c.args.add c.args._wback c.args.offset) }; stays = refl } }
