-- What an answer says: nothing was refused, or which refusal it is. Assumes nothing.
use Rattle.std.specs.Prelude.{ℕ, cond, Some, None, Ok, Err, Option, Result, nat_lt}
use Rattle.armv7.specs.declared.fault.Fault.{Fault}
use Rattle.armv7.specs.Faults.{Refusal, refusal, refused_with, no_operand}

abbrev pub outcome : {A : Type 0} → Result A Fault → Option Refusal
outcome (Ok a) = None
outcome (Err f) = Some (refusal f)

-- a sink with this much room is full below this length
abbrev pub full_below : ℕ → ℕ → Option Refusal
full_below room length = cond (nat_lt room length) (Some (refused_with 9 no_operand)) None
