use Rattle.std.proofs.Common.{◌≤◌, ◌%◌, arith}
use lib.Count.{ones, ones-le}
use Rattle.measure.proofs.Sizes.{flag_row_size}
use Rattle.measure.proofs.rows.flags_size.Goals as goal

pub returns-clause-value : goal.returns-clause-value
returns-clause-value c = flag_row_size c.args.flags c.if-flags-eq0.false

pub returns-clause-bound : goal.returns-clause-bound
returns-clause-bound c = let few : ones (c.args.flags % 8) ≤ 3 = ones-le 3 (c.args.flags % 8) (omega arith) in omega arith
