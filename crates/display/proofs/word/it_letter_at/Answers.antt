use Rattle.std.proofs.Common.{◌%◌, cond, sym, ap, eq-eqb, ne_eqb}
use Rattle.display.proofs.word.it_letter_at.Goals as goal

pub returns-then-condition-bit : goal.returns-then-condition-bit
returns-then-condition-bit c = record { letter = sym (ap (λ t. cond t 116 101) (eq-eqb (c.args.condition % 2) (c.args.bit % 2) c.if-condition-bit.true)) }

pub returns-else-condition-bit : goal.returns-else-condition-bit
returns-else-condition-bit c = record { letter = sym (ap (λ t. cond t 116 101) (ne_eqb (c.args.condition % 2) (c.args.bit % 2) c.if-condition-bit.false)) }
