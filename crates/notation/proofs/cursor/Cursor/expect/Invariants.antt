use Rattle.std.proofs.Common.{◌≡◌, drop}
use Rattle.notation.specs.Parsing.{givens}
use Rattle.notation.specs.Places.{ahead}
use Rattle.notation.proofs.cursor.Cursor.expect.Given as goal

abbrev pub invariant-loop-token : goal.invariant-loop-token
invariant-loop-token l =
    (l.self.line ≡ l.initial.self.line)
    × (givens l.wanted (ahead l.initial.self) ≡ givens (drop l.token-index l.wanted) (ahead l.self))
