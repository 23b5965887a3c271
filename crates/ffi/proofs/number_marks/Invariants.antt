use Rattle.std.proofs.Common.{◌≡◌, map, take}
use Rattle.ffi.specs.Lines.{over}
use Rattle.ffi.specs.Marks.{mark_code}
use Rattle.ffi.proofs.number_marks.Given as goal

abbrev pub invariant-loop-place : goal.invariant-loop-place
invariant-loop-place l = l.row ≡ over (map mark_code (take l.place l.mark-items)) l.initial.row
