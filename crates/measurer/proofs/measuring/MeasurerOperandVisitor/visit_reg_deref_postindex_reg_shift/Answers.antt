use Rattle.std.proofs.Common.{cond, Some, None, sym, ap, ◌∙◌, arith, refl}
use Rattle.armv7.specs.Faults.{refused_with}
use Rattle.measurer.proofs.Sizes.{postindex_shift_size}
use Rattle.measurer.proofs.measuring.MeasurerOperandVisitor.visit_reg_deref_postindex_reg_shift.Goals as goal

pub returns : goal.returns
returns c = record { answered = record { measured = record { told = sym (ap (λ w. cond w (Some (refused_with 7 0)) None) c.if-wback.false); size = omega arith ∙ sym (postindex_shift_size c.args.base c.args.add c.args.wback c.args.shift) }; stays = refl } }
