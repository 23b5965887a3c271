use Rattle.std.proofs.Common.{arith}
use Rattle.measurer.proofs.Sizes.{log_length}
use Rattle.measurer.proofs.size.prefixed_size.Goals as goal

pub returns : goal.returns
returns c = record {
  value = λ k some fits. omega (arith, log_length c.ilog2.result k c.args.number c.max.result c.ilog2.ensures.power_le c.ilog2.ensures.next_power_gt (omega arith) (λ h. omega arith) some fits);
  bound = omega arith;
}
