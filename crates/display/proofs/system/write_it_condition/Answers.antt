use Rattle.std.proofs.Common.{codes, sym, ap, ◌∙◌, append-nil}
use Rattle.armv7.specs.Conditions.{condition_name}
use Rattle.sink.specs.Items.{text_items}
use Rattle.sink.proofs.Chain.{both}
use Rattle.visitor.proofs.Pieces.{renamed}
use Rattle.display.proofs.system.write_it_condition.Goals as goal

pub returns : goal.returns
returns g c =
    let name = text_items (condition_name c.args.condition) in
    record {
      printed = both g.T.DisplaySink.sink (text_items (codes " ")) _ c.in_ok-write_text.ensures.printed
          (renamed (ap text_items c.name.ensures.value ∙ sym (append-nil name)) c.write_text-2.ensures.printed);
    }
