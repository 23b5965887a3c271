use Rattle.std.proofs.Common.{sym, refl, ◌∙◌, arith}
use Rattle.measurer.proofs.Sizes.{preindex_shift_size}
use Rattle.measurer.proofs.measuring.MeasurerOperandVisitor.visit_reg_deref_preindex_reg_shift.Goals as goal

pub returns : goal.returns
returns c = record { answered = record { measured = record { told = refl; size = omega arith ∙ sym (preindex_shift_size c.args.base c.args.add c.args.wback c.args.shift) }; stays = refl } }
