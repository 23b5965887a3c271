use Rattle.std.proofs.Common.{ap, arith}
use Rattle.sink.specs.Items.{text_items}
use Rattle.visitor.specs.Texts.{prefixed}
use Rattle.visitor.proofs.Pieces.{renamed, texts, text_stop}
use Rattle.display.proofs.system.write_cps_mode.Goals as goal

pub returns-in_err-write_either : goal.returns-in_err-write_either
returns-in_err-write_either g c = record { printed = text_stop g.T.DisplaySink.sink _ _ c.from_residual.result c.in_err-write_either.field-0.0 c.in_err-write_either.ensures.printed c.from_residual.ensures.1 }

pub returns : goal.returns
returns g c = record { printed = texts g.T.DisplaySink.sink _ _ c.in_ok-write_either.ensures.printed (renamed (ap (λ n. text_items (prefixed 4 n)) c.from.ensures) (c.write_prefixed.ensures.printed 4 (omega arith) (omega arith))) }
