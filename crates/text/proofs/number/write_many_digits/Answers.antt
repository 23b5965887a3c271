use Rattle.std.proofs.Common.{ap, ◌∙◌, arith}
use Rattle.sink.specs.Items.{text_items}
use Rattle.std.proofs.lemmas.Slice.{between_to_end}
use Rattle.visitor.proofs.Pieces.{renamed}
use Rattle.text.proofs.number.write_many_digits.Goals as goal

pub returns : goal.returns
returns g c =
    let filled = c.fill_prefixed-start in
    renamed (ap text_items (between_to_end filled.new.memory filled.result 10 (omega arith) ∙ filled.ensures.value)) c.write_text.ensures.printed
