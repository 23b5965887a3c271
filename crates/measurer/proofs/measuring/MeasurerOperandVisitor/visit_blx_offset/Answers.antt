use Rattle.std.proofs.Common.{◌*◌, ◌^◌, ◌<◌, nat_abs, ap, ◌∙◌, arith, w32, rules, refl}
use Rattle.std.proofs.lemmas.Int.{to_z-of_z}
use Rattle.measurer.proofs.Sizes.{branch_size}
use Rattle.measurer.proofs.measuring.MeasurerOperandVisitor.visit_blx_offset.Goals as goal

pub returns : goal.returns
returns c =
    let z = c.args.offset in
    let fits : 2 * c.unsigned_abs.result < 16 ^ 8 = search rules in
    record { answered = record { measured = record { told = search rules; size = branch_size 2 z (c.unsigned_abs.ensures.value ∙ ap nat_abs (to_z-of_z w32 z c.ranges.offset)) (c.prefixed_size.ensures.value 8 (omega arith) fits) }; stays = refl } }
