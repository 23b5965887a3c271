use Rattle.std.proofs.Common.{ℕ, Bool, cond, List, [], ◌++◌, codes, sym, ap, eq-eqb, ne_eqb, arith}
use Rattle.sink.specs.Items.{Item, text_items}
use Rattle.sink.proofs.Chain.{nothing}
use Rattle.visitor.specs.Operands.{minus}
use Rattle.visitor.specs.Texts.{prefixed}
use Rattle.visitor.proofs.Pieces.{renamed, texts, text_stop}
use Rattle.writer.proofs.address.U16Offset.write.Goals as goal

abbrev items : Bool → ℕ → Bool → List Item
items add n none = text_items (cond none [] (codes ", " ++ (minus add ++ prefixed 4 n)))

pub returns-then-self-eq0 : goal.returns-then-self-eq0
returns-then-self-eq0 g c =
    renamed (ap (items c.args.add c.args.self) (sym (eq-eqb c.args.self 0 c.if-self-eq0.true))) (nothing g.T.DisplaySink.sink c.args.out.now)

pub returns-in_err-write_comma : goal.returns-in_err-write_comma
returns-in_err-write_comma g c =
    renamed (ap (items c.args.add c.args.self) (sym (ne_eqb c.args.self 0 c.if-self-eq0.false)))
    (text_stop g.T.DisplaySink.sink (codes ", " ++ minus c.args.add) (prefixed 4 c.args.self) c.from_residual.result c.in_err-write_comma.field-0.0 c.in_err-write_comma.ensures c.from_residual.ensures.1)

pub returns : goal.returns
returns g c =
    renamed (ap (items c.args.add c.args.self) (sym (ne_eqb c.args.self 0 c.if-self-eq0.false)))
    (texts g.T.DisplaySink.sink (codes ", " ++ minus c.args.add) (prefixed 4 c.args.self) c.in_ok-write_comma.ensures (renamed (ap (λ n. text_items (prefixed 4 n)) c.from.ensures) (c.write_prefixed.ensures.printed 4 (omega arith) (omega arith))))
