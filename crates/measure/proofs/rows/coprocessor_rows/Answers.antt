use Rattle.std.proofs.Common.{map}
use Rattle.kind.specs.Kinds.{optional}
use Rattle.visitor.specs.Operands.{operand_items}
use Rattle.measure.proofs.Sizes.{coprocessor_size}
use Rattle.measure.proofs.rows.coprocessor_rows.Goals as goal

pub returns-clause-value : goal.returns-clause-value
returns-clause-value c =
    let a = c.args in
    coprocessor_size a.codes.coprocessor (optional a.codes.second) (map operand_items a.reached.operands.now) (optional a.codes.third)
    c.decimal_size.ensures.value c.code_row_size.ensures.value c.operand_rows.ensures.value c.code_row_size-2.ensures.value
