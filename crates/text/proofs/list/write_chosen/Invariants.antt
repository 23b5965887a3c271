use Rattle.std.proofs.Common.{◌≡◌, List, ◌++◌, map, None}
use Rattle.sink.specs.Items.{Item}
use Rattle.sink.specs.Printed.{Printed}
use Rattle.visitor.specs.Texts.{reg_items, joined, chosen, all_regs}
use Rattle.text.proofs.Chosen.{ahead, Within}
use Rattle.text.proofs.list.write_chosen.Given as goal

-- some items are written, and with those ahead they are all
abbrev pub invariant-loop-reg : goal.invariant-loop-reg
invariant-loop-reg g l =
    (done : List Item)
    × Printed g.T.DisplaySink.sink done l.initial.out None l.out
    × (done ++ ahead l.rest l.reg-index ≡ joined (map reg_items (chosen all_regs l.mask)))
    × Within l.rest l.reg-index
