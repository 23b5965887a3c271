use Rattle.std.proofs.Common.{◌≡◌, ◌-◌, ◌≤◌, ◌++◌, length, drop}
use Rattle.visitor.specs.Texts.{hex_digits}
use Rattle.text.proofs.number.fill_prefixed.Given as goal

abbrev pub invariant-loop-place : goal.invariant-loop-place
invariant-loop-place l =
    (length l.memory ≡ 10) × (2 ≤ l.place) × (l.place ≤ 10) × (hex_digits (l.place - 2) l.rest ++ drop l.place l.memory ≡ hex_digits 8 l.number)
