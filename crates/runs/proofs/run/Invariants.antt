use Rattle.std.proofs.Common.{◌≡◌, map, take}
use Rattle.runs.specs.Runs.{called}
use Rattle.page.specs.Spellings.{own}
use Rattle.runs.specs.Chains.{Driven}
use Rattle.runs.proofs.run.Given as goal

-- the entries so far are a chain of calls, and no call was changed
abbrev pub invariant-loop-entry : goal.invariant-loop-entry
invariant-loop-entry g l =
    Driven g.S.DisplaySink.sink own l.initial.page.sink (take l.entry-index l.entries) l.page
    × (map called l.entries ≡ map called l.initial.entries)
