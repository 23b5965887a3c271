use Rattle.std.proofs.Common.{◌≤◌, sym, ◌∙◌, arith}
use lib.Count.{ones, ones-le}
use Rattle.measurer.proofs.Counts.{list_size}
use Rattle.measurer.proofs.size.list_size.Goals as goal

pub overflow_cast-count : goal.overflow_cast-count
overflow_cast-count c = let few : ones c.args.mask ≤ 16 = ones-le 16 c.args.mask (omega arith) in record { fits = omega arith }

pub overflow_mul-result : goal.overflow_mul-result
overflow_mul-result c = let few : ones c.args.mask ≤ 16 = ones-le 16 c.args.mask (omega arith) in record { fits = omega arith }

pub overflow_add-result : goal.overflow_add-result
overflow_add-result c = let few : ones c.args.mask ≤ 16 = ones-le 16 c.args.mask (omega arith) in record { fits = omega arith }

pub returns-then-count-eq0 : goal.returns-then-count-eq0
returns-then-count-eq0 c = record { value = omega arith ∙ sym (list_size c.args.mask (omega arith)); bound = omega arith }

pub returns : goal.returns
returns c =
    let few : ones c.args.mask ≤ 16 = ones-le 16 c.args.mask (omega arith) in
    record { value = omega arith ∙ sym (list_size c.args.mask (omega arith)); bound = omega arith }
