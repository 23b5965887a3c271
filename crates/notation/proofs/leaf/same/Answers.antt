use Rattle.std.proofs.lemmas.Slice.Eq.{slice_eq-Decides}
use Rattle.notation.proofs.Tables.{same_from_decides}
use Rattle.notation.proofs.leaf.same.Goals as goal
use Rattle.std.proofs.lemmas.Bool.Decides.{Decides-eqb}

pub returns : goal.returns
returns c = same_from_decides c.args.a.now c.args.b.now c.eq.result (slice_eq-Decides Decides-eqb c.args.a.now c.args.b.now c.eq.result c.eq.ensures)
