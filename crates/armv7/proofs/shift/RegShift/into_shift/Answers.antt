use Rattle.std.proofs.Common.{arith}
use Rattle.std.proofs.lemmas.Bool.Decides.{nat_tests}
use Rattle.armv7.proofs.Words.{fields_kept}
use Rattle.armv7.proofs.shift.RegShift.into_shift.Goals as goal

pub returns-then-word-eq0 : goal.returns-then-word-eq0
returns-then-word-eq0 c =
    let reg = c.from_low_bits-shiftee.ensures in
    let kind = c.from_low_bits-stype.ensures in
    let kept = fields_kept c.args.self.now in
    record { fields = grind (arith, nat_tests) }

pub returns-else-word-eq0 : goal.returns-else-word-eq0
returns-else-word-eq0 c =
    let reg = c.from_low_bits-shiftee.ensures in
    let kind = c.from_low_bits-stype.ensures in
    let by = c.from_low_bits-shifter.ensures in
    let kept = fields_kept c.args.self.now in
    record { fields = grind (arith, nat_tests) }
