use Rattle.std.proofs.Common.{◌++◌, codes, rules}
use Rattle.sink.specs.Items.{text_items}
use Rattle.visitor.specs.Operands.{bang}
use Rattle.visitor.specs.Texts.{flagged, reg_items, list_items}
use Rattle.measure.proofs.Sizes.{block_rows_size}
use Rattle.measure.proofs.rows.block_rows.Goals as goal

pub returns-clause-value : goal.returns-clause-value
returns-clause-value c =
    let block = c.args.block in
    block_rows_size (reg_items block.base ++ text_items (bang block.wback)) (list_items block.mask) (flagged block.user (codes "^"))
    c.operand_size.ensures.value c.list_row.ensures.value (search rules)
