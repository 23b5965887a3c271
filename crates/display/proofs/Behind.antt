-- Rows behind a word, in the pieces that they are printed in. Assumes nothing.
use Rattle.std.proofs.Common.{◌≡◌, ℕ, List, [], ◌∷◌, ◌++◌, map, codes, sym, ap, ◌∙◌, append_assoc, append-nil}
use Rattle.armv7.specs.declared.reg.Reg.{Reg}
use Rattle.lines.specs.declared.alias.Stacked.TheVariants.{One}
use Rattle.sink.specs.declared.sink.Edge.TheVariants.{Start, End}
use Rattle.sink.specs.declared.sink.Span.TheVariants.{Register}
use Rattle.sink.specs.Items.{Item, edge, within, text_items}
use Rattle.visitor.specs.Texts.{reg_items, followed, decimal}
use Rattle.lines.specs.Lines.{behind_word, stack_row, code_row, code_rows}
use Rattle.display.proofs.Followed.{followed_append}

-- the one register of a pop or a push, between its braces
pub one_around : (r : Reg) → text_items (codes " {") ++ (within Register (reg_items r) ++ text_items (codes "}")) ≡ behind_word (stack_row (One r) ∷ [])
one_around r =
    ap (λ l. text_items (codes " {") ++ (edge Start Register ∷ l)) (append_assoc (reg_items r) (edge End Register ∷ []) (text_items (codes "}"))) ∙ ap (λ l. text_items (codes " ") ++ l) (sym (append-nil (stack_row (One r))))

-- the coprocessor, and the code behind it
abbrev pub codes_first : ℕ → List ℕ → List Item
codes_first a bs = text_items (codes " p") ++ (text_items (decimal a) ++ followed (map code_row bs))

-- the codes of a coprocessor form, and the operands between them
pub codes_around : (a : ℕ) (bs : List ℕ) (os : List (List Item)) (cs : List (List Item)) → codes_first a bs ++ (followed os ++ followed cs) ≡ behind_word (code_rows (a ∷ bs) ++ (os ++ cs))
codes_around a bs os cs =
    let second = map code_row bs in
    ap (λ l. text_items (codes " p") ++ l) (append_assoc (text_items (decimal a)) (followed second) (followed os ++ followed cs))
    ∙ ap (λ l. text_items (codes " p") ++ (text_items (decimal a) ++ l)) (ap (λ l. followed second ++ l) (sym (followed_append os cs)) ∙ sym (followed_append second (os ++ cs)))
