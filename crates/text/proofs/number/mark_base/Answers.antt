use Rattle.std.proofs.Common.{◌-◌, arith}
use Rattle.text.proofs.Hex.{placed_two}
use Rattle.text.proofs.number.mark_base.Goals as goal

pub returns-clause-value : goal.returns-clause-value
returns-clause-value c = placed_two c.args.memory.now (c.args.start - 2) (c.args.start - 1) c.args.start 48 120 (omega arith) (omega arith) (omega arith)
