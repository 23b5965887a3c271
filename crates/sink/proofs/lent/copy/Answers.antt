use Rattle.std.proofs.Common.{◌+◌, length, sym, subst, arith}
use Rattle.sink.specs.Lent.{Filled}
use Rattle.sink.proofs.Lents.{part_spliced, spliced_filled}
use Rattle.sink.proofs.lent.copy.Goals as goal

pub returns-clause-rest : goal.returns-clause-rest
returns-clause-rest g c =
    let used = c.args.used in
    let xs = c.args.memory.now in
    let piece = c.args.piece.now in
    subst (λ ys. Filled xs used ys (used + length piece)) (sym (part_spliced xs _ piece used _ c.copy_from_slice.ensures.after (omega arith))) (spliced_filled xs piece used (omega arith))
