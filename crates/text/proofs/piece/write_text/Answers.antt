use Rattle.sink.proofs.Chain.{wrote}
use Rattle.text.proofs.piece.write_text.Goals as goal

pub returns : goal.returns
returns g c = record { printed = wrote g.T.DisplaySink.sink _ c.write.ensures.appended }
