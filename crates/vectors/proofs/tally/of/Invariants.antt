use denote.Text.{Utf8}
use denote.Shadow.{shadow}
use Rattle.vectors.proofs.tally.of.Given as goal

-- what is kept of the lines read so far is text
abbrev pub invariant-loop-line : goal.invariant-loop-line
invariant-loop-line l =
    (goal.iterator-loop-line).can_next l.line-iterator
    × (goal.iterator-loop-line).is_finite l.line-iterator
    × (shadow (Utf8 l.case) × shadow (Utf8 l.text))
