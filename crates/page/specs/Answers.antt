-- What a page's answer says: how many lines it has, or which refusal it is with how many lines. Assumes nothing.
use Rattle.std.specs.Prelude.{ℕ, length, Some, None, Ok, Err, Option, Result}
use Rattle.armv7.specs.Faults.{Refusal, refusal}
use Rattle.armv7.specs.declared.call.Call.{Call}
use Rattle.sink.specs.Items.{bytes}
use Rattle.page.specs.declared.entry.PageFault.{PageFault}
use Rattle.page.specs.Rows.{row_refused}
use Rattle.page.specs.Spellings.{Spelling, call_refused, call_line}

pub data Told : Type 0 where
  lines : ℕ → Told
  fault : Refusal → ℕ → Told

abbrev pub told : Result ℕ PageFault → Told
told (Ok n) = lines n
told (Err f) = fault (refusal f.fault) f.count

-- a call on a page of so many lines is refused, or makes it a page of the next number
abbrev pub told_by : Option Refusal → ℕ → ℕ → Told
told_by None count next = lines next
told_by (Some why) count next = fault why count

-- what a call is owed at this room, on a page of so many lines: its refusal, page full, or the next number
abbrev pub owed : Spelling → ℕ → ℕ → ℕ → Call → Told
owed s room count next c = told_by (row_refused (call_refused s c) room (length (bytes (call_line s c)))) count next
