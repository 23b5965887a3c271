use Rattle.std.proofs.Common.{arith}
use Rattle.ffi.proofs.mark_number.Goals as goal

pub returns : goal.returns
returns c = omega arith
