use Rattle.std.proofs.Common.{◌≡◌, [], ◌∷◌, ◌++◌, codes, sym, ap, append-nil}
use Rattle.armv7.specs.declared.reg.Reg.{Reg}
use Rattle.sink.specs.Items.{text_items}
use Rattle.sink.proofs.Chain.{both, stop}
use Rattle.visitor.specs.Texts.{reg_items}
use Rattle.visitor.proofs.Pieces.{renamed}
use Rattle.lines.specs.Lines.{behind_word}
use Rattle.lines.specs.declared.alias.Stacked.TheVariants.{One}
use Rattle.manual.specs.Lines.{stack_row}
use Rattle.manual.proofs.line.write_one.Goals as goal

pieces : (r : Reg) → text_items (codes " {") ++ (reg_items r ++ text_items (codes "}")) ≡ behind_word (stack_row (One r) ∷ [])
pieces r = ap (λ l. text_items (codes " ") ++ l) (sym (append-nil (stack_row (One r))))

pub returns-in_err-write_text : goal.returns-in_err-write_text
returns-in_err-write_text g c = record { printed = renamed (pieces c.args.reg) (stop g.T.DisplaySink.sink (text_items (codes " {")) _ c.from_residual.result c.in_err-write_text.field-0.0 c.in_err-write_text.ensures.printed c.from_residual.ensures.1) }

pub returns-in_err-write_reg : goal.returns-in_err-write_reg
returns-in_err-write_reg g c =
    let sink = g.T.DisplaySink.sink in
    let r = c.from_residual-in_err-write_reg in
    record {
      printed = renamed (pieces c.args.reg) (both sink (text_items (codes " {")) _ c.in_ok-write_text.ensures.printed
          (stop sink (reg_items c.args.reg) _ r.result c.in_err-write_reg.field-0.0 c.in_err-write_reg.ensures.printed r.ensures.1));
    }

pub returns : goal.returns
returns g c =
    let sink = g.T.DisplaySink.sink in
    record {
      printed = renamed (pieces c.args.reg) (both sink (text_items (codes " {")) _ c.in_ok-write_text.ensures.printed
          (both sink (reg_items c.args.reg) _ c.in_ok-write_reg.ensures.printed c.write_text-2.ensures.printed));
    }
