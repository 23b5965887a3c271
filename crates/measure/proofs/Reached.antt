-- The sizes of the operands that are reached, added up. Assumes nothing.
use Rattle.std.proofs.Common.{◌≡◌, ℕ, ◌+◌, ◌*◌, ◌<◌, ◌≤◌, List, [], ◌∷◌, ◌++◌, map, length, get_or, take, ap, arith}
use Rattle.std.proofs.lemmas.List.{take_more}
use Rattle.armv7.specs.declared.operand.Operand.{Operand}
use Rattle.armv7.specs.declared.operand.Operand.TheVariants.{Reg as One}
use Rattle.armv7.specs.declared.reg.Reg.TheVariants.{R0}
use Rattle.visitor.specs.Operands.{operand_items}
use Rattle.visitor.specs.Texts.{followed}
use Rattle.measurer.proofs.Sizes.{size}
use Rattle.measure.proofs.Sizes.{row_size}

-- the rows of these operands, each behind a comma
abbrev pub rows : List Operand → ℕ
rows os = size (followed (map operand_items os))

one_more : (os : List Operand) (o : Operand) → rows (os ++ o ∷ []) ≡ rows os + (2 + size (operand_items o))
one_more [] o = omega (arith, row_size (operand_items o) [])
one_more (a ∷ os) o = omega (arith, row_size (operand_items a) (map operand_items (os ++ o ∷ [])), row_size (operand_items a) (map operand_items os), one_more os o)

-- the rows of the first i operands
pub record RowsTo (os : List Operand) (i n : ℕ) : Type 0 where
  pub value : n ≡ rows (take i os)
  pub bound : n ≤ 67 * i

pub more : (os : List Operand) (i n m : ℕ) → i < length os → RowsTo os i n → m ≡ size (operand_items (get_or os i (One R0))) → m ≤ 65 → RowsTo os (i + 1) (n + (2 + m))
more os i n m within so e few =
    let taken = ap rows (take_more os i (One R0) within) in
    let row = one_more (take i os) (get_or os i (One R0)) in
    record { value = omega (arith, so.value, e, taken, row); bound = omega (arith, so.bound, few) }
