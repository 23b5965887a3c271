-- What a line of a record comes to in lent memory. Assumes nothing.
use Rattle.std.specs.Prelude.{◌≡◌, ℕ, ◌-◌, List, [], ◌++◌, length, drop, Some, None, Ok, Err, Option, Result}
use Rattle.armv7.specs.declared.call.Call.{Call}
use Rattle.armv7.specs.declared.call.Call.TheVariants.{Print, Gap}
use Rattle.armv7.specs.declared.instruction.Instruction.{Instruction}
use Rattle.armv7.specs.Faults.{Refusal, refused_with, no_operand}
use Rattle.notation.specs.Parsing.{Stop}
use Rattle.notation.specs.Places.{Stands}
use Rattle.notation.specs.Tokens.{tokens, first}
use Rattle.record.specs.Calls.{reading}
use Rattle.sink.specs.Items.{Item, bytes, fitting}
use Rattle.sink.specs.Outcome.{full_below}
use Rattle.lines.specs.Admission.{refused}
use Rattle.lines.specs.Lines.{line}
use Rattle.ffi.specs.declared.Answer.{Answer}

-- reading stops at a column, from 1: the tokens that are left begin there
pub record StopsAt (text : List ℕ) (column : ℕ) (s : Stop) : Type 0 where
  pub place : Stands text column (first s.left)
  pub left : tokens (drop (column - 1) text) ≡ s.left

-- the column that tells of a reading: 0 of a line that is read
abbrev pub Tells : List ℕ → ℕ → Result (Option Call) Stop → Type 0
Tells text column (Ok c) = column ≡ 0
Tells text column (Err s) = StopsAt text column s

abbrev pub ColumnOf : List ℕ → ℕ → Type 0
ColumnOf text column = Tells text column (reading (tokens text))

-- the instruction that is to be printed, if any
abbrev pub printing : Result (Option Call) Stop → Option Instruction
printing (Ok (Some (Print i))) = Some i
printing (Ok (Some Gap)) = None
printing (Ok None) = None
printing (Err s) = None

abbrev pub asked : List ℕ → Option Instruction
asked text = printing (reading (tokens text))

-- the items that go into so many bytes: none where there is a refusal
abbrev pub items_unless : Option Refusal → ℕ → List Item → List Item
items_unless None n is = fitting n is
items_unless (Some why) n is = []

abbrev pub shown : ℕ → Option Instruction → List Item
shown n None = []
shown n (Some i) = items_unless (refused i) n (line i)

-- the refusal, which may be that the line is longer than so many bytes
abbrev pub refusal_unless : Option Refusal → ℕ → List Item → Option Refusal
refusal_unless None n is = full_below n (length (bytes is))
refusal_unless (Some why) n is = Some why

-- number 0 tells of no refusal
abbrev pub numbered : Option Refusal → Refusal
numbered None = refused_with 0 no_operand
numbered (Some why) = why

abbrev pub told : ℕ → Option Instruction → Refusal
told n None = numbered None
told n (Some i) = numbered (refusal_unless (refused i) n (line i))

-- memory that begins with these elements, and is as before past them
abbrev pub over : {A : Type 0} → List A → List A → List A
over front before = front ++ drop (length front) before

-- an answer has the refusal's number and its place
abbrev pub TellsRefusal : Refusal → Answer → Type 0
TellsRefusal why a = (a.number ≡ why.number) × (a.place ≡ why.place)

-- an answer to an instruction that was printed to so many bytes: how long the text is, and the refusal
abbrev pub TellsText : ℕ → Option Instruction → Answer → Type 0
TellsText n i a = (a.length ≡ length (bytes (shown n i))) × TellsRefusal (told n i) a

-- memory that was lent for the text of an instruction begins with it, and is as before past it
abbrev pub HoldsText : Option Instruction → List ℕ → List ℕ → Type 0
HoldsText i before after = after ≡ over (bytes (shown (length before) i)) before
