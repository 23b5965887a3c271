use Rattle.std.proofs.Common.{[], ◌∷◌, take, ap, ◌∙◌}
use native.Mathlib.Nat.{sub-zero}
use Rattle.sink.specs.Items.{text_items}
use Rattle.visitor.proofs.Pieces.{renamed}
use Rattle.lines.specs.Lines.{it_letters}
use Rattle.display.proofs.word.write_it_letters.Goals as goal

pub returns : goal.returns
returns g c =
    let count = sub-zero c.letter_count-count.result ∙ c.letter_count-count.ensures.value in
    record { printed = renamed (ap text_items (λ i. take (count i) (c.it_letter_at.ensures.letter i ∷ c.it_letter_at-2.ensures.letter i ∷ c.it_letter_at-3.ensures.letter i ∷ [])) ∙ ap (λ n. text_items (it_letters n c.args.block.mask)) c.condition_number-condition.ensures.number) c.write_text.ensures.printed }
