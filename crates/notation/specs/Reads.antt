-- What a function of the reader promises. Assumes nothing.
use Rattle.std.specs.Prelude.{◌≡◌, ℕ, ◌-◌, List, drop, Ok, Err, Result}
use Rattle.misreading.specs.declared.misread.Misread.{Misread}
use Rattle.notation.specs.declared.cursor.Cursor.{Cursor}
use Rattle.notation.specs.declared.cursor.Slip.{Slip}
use Rattle.notation.specs.Parsing.{Tokens, Parser, Stop}
use Rattle.notation.specs.Places.{ahead, Stands}
use Rattle.notation.specs.Tokens.{tokens, first, others}

-- where reading stops, by what is wrong there and the tokens that are left
abbrev pub stop : Slip → Tokens → Stop
stop s ts = record { left = ts; expected = s.expected; refusal = s.refusal }

-- what a function answered, and the tokens that it left
abbrev pub outcome : {X : Type 0} → Result X Slip → Tokens → Result (X × Tokens) Stop
outcome (Ok x) ts = Ok (x, ts)
outcome (Err s) ts = Err (stop s ts)

-- the first token, as what it was read as
abbrev pub read_as : {X : Type 0} → Result X Slip → Parser X
read_as (Ok x) ts = Ok (x, others ts)
read_as (Err s) ts = Err (stop s ts)

-- r is what the parser makes of what is ahead: the cursor goes past what was read, and stops before what cannot be
pub record Reads {X : Type 0} (p : Parser X) (before : Cursor) (r : Result X Slip) (after : Cursor) : Type 0 where
  pub line : after.line ≡ before.line
  pub value : p (ahead before) ≡ outcome r (ahead after)

-- a misreading tells where reading stops: the column at which the tokens that are left begin, the first of them, what was
-- expected of it, and the refusal of a number
pub record Tells (line : List ℕ) (m : Misread) (s : Stop) : Type 0 where
  pub place : Stands line m.column m.found.now
  pub left : tokens (drop (m.column - 1) line) ≡ s.left
  pub found : m.found.now ≡ first s.left
  pub expected : m.expected ≡ s.expected
  pub refusal : m.refusal ≡ s.refusal
