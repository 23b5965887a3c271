-- One call of a page: what it changes. Assumes nothing.
use Rattle.std.specs.Prelude.{◌≡◌, ℕ, suc, ◌-◌, ◌^◌, min, List, Some, None, Option, Result}
use Rattle.armv7.specs.Faults.{Refusal}
use Rattle.sink.specs.Items.{Item}
use Rattle.sink.specs.Meaning.{room, SinkOf}
use Rattle.sink.specs.Printed.{taken}
use Rattle.armv7.specs.declared.call.Call.{Call}
use Rattle.page.specs.declared.entry.PageFault.{PageFault}
use Rattle.page.specs.declared.page.Page.{Page}
use Rattle.page.specs.Answers.{Told, lines, fault, told, owed}
use Rattle.page.specs.Rows.{row}
use Rattle.page.specs.Spellings.{Spelling, call_line}

-- the next count, in 64 bits
abbrev pub counted : ℕ → ℕ
counted n = min (suc n) (2 ^ 64 - 1)

abbrev pub counted_unless : Option Refusal → ℕ → ℕ
counted_unless None n = counted n
counted_unless (Some why) n = n

-- a line with its line break was taken, and counted
pub record Lined {S : Type 0} (sink : SinkOf S) (is : List Item) (count : ℕ) (before after : Page S) : Type 0 where
  pub held : sink.meaning after.sink ≡ taken (row is) (sink.meaning before.sink)
  pub rest : sink.kept (row is) before.sink after.sink
  pub count_is : after.count ≡ count

-- an accepted call adds its line, and a refused one changes nothing
abbrev pub Changed : {S : Type 0} → SinkOf S → List Item → Told → Page S → Page S → Type 0
Changed sink is (lines n) before after = Lined sink is n before after
Changed sink is (fault why n) before after = after ≡ before

pub record Step {S : Type 0} (sink : SinkOf S) (s : Spelling) (c : Call) (before : Page S) (answer : Result ℕ PageFault) (after : Page S) : Type 0 where
  pub answered : told answer ≡ owed s (room (sink.meaning before.sink)) before.count (counted before.count) c
  pub changed : Changed sink (call_line s c) (told answer) before after

abbrev pub made_on : {S : Type 0} → S → Page S
made_on start = record { sink = start; count = 0 }
