use Rattle.std.proofs.Common.{◌≡◌, ◌+◌, ◌≤◌, ◌++◌, length, take}
use Rattle.sink.specs.Lent.{Filled}
use Rattle.cells.specs.Inks.{painted}
use Rattle.cells.proofs.painting.paint.Given as goal

abbrev pub invariant-loop-byte : goal.invariant-loop-byte
invariant-loop-byte l =
    (l.used ≡ l.initial.used + l.byte-index) × (l.used ≤ length l.cells)
    × (take l.used l.cells ≡ take l.initial.used l.initial.cells ++ painted l.ink (take l.byte-index l.piece))
    × Filled l.initial.cells l.initial.used l.cells l.used
