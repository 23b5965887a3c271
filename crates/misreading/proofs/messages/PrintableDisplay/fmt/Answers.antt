use Rattle.std.proofs.Common.{rules, sym, ap, ◌∙◌, [], take, get_or}
use Rattle.std.proofs.Output.{has_written_append, has_written_of_eq}
use Rattle.std.proofs.lemmas.List.{take_more, flat_map_more}
use Rattle.misreading.specs.Messages.{shown_byte, shown}
use Rattle.misreading.proofs.Shown.{as_it_is, by_number}
use Rattle.misreading.proofs.messages.PrintableDisplay.fmt.Goals as goal
use Rattle.misreading.proofs.messages.PrintableDisplay.fmt.Goals.{in-32-to-126+in_ok-write_char-in-32-to-126, in_default+in_ok-write-in_default, in_default-via-then-b-lt32, in_default-via-else-b-lt32+else-b-lt127}

pub loop-b-preserved : goal.loop-b-preserved
loop-b-preserved g c = λ plain.
    let text = c.args.self.now.0.now in
    let i = c.loop-b.b-index in
    let so_far = c.loop-b.invariant plain in
    has_written_of_eq _ _ _ _ _
    (flat_map_more shown_byte [] (take i text) (get_or text i 0) ∙ ap shown (sym (take_more text i 0 c.loop-b-test.true)))
    (has_written_append _ _ _ _ _ _ so_far (elim c.if-b-lt32.branch [ in-32-to-126+in_ok-write_char-in-32-to-126 w ↦ has_written_of_eq _ _ _ _ _ (as_it_is (get_or text i 0) (search rules) (search rules)) (search rules) | in_default+in_ok-write-in_default w ↦ has_written_of_eq _ _ _ _ _ (by_number (get_or text i 0) (search rules) (elim w.in_default-1.branch [ in_default-via-then-b-lt32 w' ↦ search rules | in_default-via-else-b-lt32+else-b-lt127 w' ↦ search rules ])) (search rules) ]))
