use Rattle.record.specs.Calls.{starts}
use Rattle.record.proofs.call.read_start.Goals as goal

pub returns : goal.returns
unfolding starts
returns c = c.choose.ensures.reads
