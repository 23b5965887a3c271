use Rattle.std.proofs.Common.{◌≡◌, ◌≤◌, length, sym, subst, rules}
use Rattle.sink.specs.Items.{bytes}
use Rattle.visitor.specs.Operands.{operand_items}
use Rattle.blocks.proofs.Operands.{operand_row}
use Rattle.measure.proofs.rows.operand_size.Goals as goal

pub returns-clause-bound : goal.returns-clause-bound
returns-clause-bound c =
    let told : c.unwrap.result ≡ length (bytes (operand_items c.args.operand)) = search rules in
    subst (λ n. n ≤ 65) (sym told) (operand_row c.args.operand).size
