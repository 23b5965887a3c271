use Rattle.lines.proofs.Tried.{TriedTo}
use Rattle.lines.proofs.operands.admit_reached.Given as goal

abbrev pub invariant-loop-index : goal.invariant-loop-index
invariant-loop-index l = TriedTo l.operands l.index
