-- Chains of calls on a page, from its making on. Assumes nothing.
use Rattle.std.specs.Prelude.{ℕ, List, [], ◌∷◌, ◌++◌, map, Result}
use Rattle.armv7.specs.declared.call.Call.{Call}
use Rattle.sink.specs.Meaning.{SinkOf}
use Rattle.page.specs.declared.entry.Entry.{Entry}
use Rattle.page.specs.declared.entry.PageFault.{PageFault}
use Rattle.page.specs.declared.page.Page.{Page}
use Rattle.page.specs.Spellings.{Spelling}
use Rattle.page.specs.Steps.{Step, made_on}
use Rattle.runs.specs.Runs.{called, Run}

-- the entries of a page that was made on a sink and has had these calls since, and nothing else
pub data Driven {S : Type 0} (sink : SinkOf S) (s : Spelling) (start : S) : List Entry → Page S → Type 0 where
  made : Driven sink s start [] (made_on start)
  then :
      {es : List Entry} {p q : Page S} {c : Call} {r : Result ℕ PageFault}
      → Driven sink s start es p
      → Step sink s c p r q
      → Driven sink s start (es ++ record { call = c; answer = r } ∷ []) q

-- any such chain keeps the law on runs
abbrev pub StepsMakeRuns : {S : Type 0} → SinkOf S → Spelling → Type 0
StepsMakeRuns {S} sink s =
    (start : S) (es : List Entry) (p : Page S) → Driven sink s start es p → Run sink s start (map called es) es p.sink p.count
