use Rattle.std.proofs.Common.{take, drop, ap, arith}
use Rattle.sink.specs.Items.{text_items}
use Rattle.visitor.proofs.Pieces.{renamed, texts}
use Rattle.display.proofs.Words.{letters_suffix}
use Rattle.display.proofs.word.write_condition.Goals as goal

pub returns-in_ok-write_text-in_default : goal.returns-in_ok-write_text-in_default
returns-in_ok-write_text-in_default g c =
    let n = c.name-name.result.now in
    let told = c.name-name.ensures in
    record {
      printed = renamed (ap text_items (letters_suffix _ n told.value told.size (grind arith)))
          (texts g.T.DisplaySink.sink (take 1 n) (take 1 (drop 1 n)) c.in_ok-write_text-in_default.ensures.printed c.write_text-in_default.ensures.printed);
    }
