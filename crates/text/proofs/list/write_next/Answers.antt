use Rattle.sink.proofs.Chain.{both, stop}
use Rattle.visitor.specs.Texts.{reg_items}
use Rattle.text.proofs.list.write_next.Goals as goal

pub returns-in_err-write_reg : goal.returns-in_err-write_reg
returns-in_err-write_reg g c =
    stop g.T.DisplaySink.sink (reg_items c.args.reg) _ c.from_residual.result c.in_err-write_reg.field-0.0 c.in_err-write_reg.ensures.printed c.from_residual.ensures.1

pub returns : goal.returns
returns g c = both g.T.DisplaySink.sink (reg_items c.args.reg) _ c.in_ok-write_reg.ensures.printed c.write_flagged.ensures.printed
