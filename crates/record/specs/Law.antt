-- What reading a line promises. Assumes nothing.
use Rattle.std.specs.Prelude.{◌≡◌, ℕ, List, [], ◌∷◌, Some, None, Ok, Err, codes, Option, Result}
use Rattle.misreading.specs.declared.misread.Misread.{Misread}
use Rattle.notation.specs.Parsing.{Stop}
use Rattle.notation.specs.Places.{Stands}
use Rattle.notation.specs.Reads.{Tells}
use Rattle.notation.specs.Tokens.{tokens}
use Rattle.armv7.specs.declared.call.Call.{Call}
use Rattle.armv7.specs.declared.call.Call.TheVariants.{Print, Gap}
use Rattle.record.specs.Calls.{reading}
use Rattle.record.specs.Written.{written, CanBe}

-- a blank line or a comment
abbrev pub PassedOver : List (List ℕ) → Type 0
PassedOver [] = Unit {0}
PassedOver (t ∷ ts) = t ≡ codes "#"

-- the tokens of a line say this call
abbrev pub Says : List (List ℕ) → Option Call → Type 0
Says ts None = PassedOver ts
Says ts (Some Gap) = ts ≡ codes "gap" ∷ []
Says ts (Some (Print i)) = ts ≡ written i

-- a call that can be
abbrev pub CanCall : Option Call → Type 0
CanCall None = Unit {0}
CanCall (Some Gap) = Unit {0}
CanCall (Some (Print i)) = CanBe i

-- the answer is this call
abbrev pub Answers : {E : Type 0} → Result (Option Call) E → Option Call → Type 0
Answers (Ok c) d = c ≡ d
Answers (Err e) d = ⊥

-- the answer is what the line is read as
abbrev pub Answered : List ℕ → Result (Option Call) Misread → Type 0
Answered line (Ok c) = reading (tokens line) ≡ Ok c
Answered line (Err m) = (s : Stop) × ((reading (tokens line) ≡ Err s) × Tells line m s)

-- what was found stands at the column
abbrev pub Found : List ℕ → Misread → Type 0
Found line m = Stands line m.column m.found.now
