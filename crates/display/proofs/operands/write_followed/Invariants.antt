use Rattle.display.proofs.Followed.{Sofar}
use Rattle.display.proofs.operands.write_followed.Given as goal

abbrev pub invariant-loop-index : goal.invariant-loop-index
invariant-loop-index g l = Sofar g.T.DisplaySink.sink l.reached.operands.now l.index l.initial.out l.out
