-- The rows of a CPS, as they are written. Assumes nothing.
use Rattle.std.proofs.Common.{◌≡◌, ℕ, Bool, true, false, cond, List, [], ◌∷◌, ◌++◌, Some, None, codes, Option, sym, refl, ap, ◌∙◌, append-nil}
use Rattle.sink.specs.Items.{Item, text_items}
use Rattle.visitor.specs.Texts.{prefixed}
use Rattle.lines.specs.Lines.{mode_rows, behind_word}

-- the mode, by whether no flags stand before it
abbrev pub mode_items : Bool → Option ℕ → List Item
mode_items b None = []
mode_items b (Some n) = text_items (cond b (codes " #") (codes ", #") ++ prefixed 4 n)

pub cps_pieces : (b : Bool) (l : List ℕ) (m : Option ℕ) → cond b [] (text_items (codes " ") ++ text_items l) ++ mode_items b m ≡ behind_word (cond b [] (text_items l ∷ []) ++ mode_rows m)
cps_pieces true l None = refl
cps_pieces true l (Some n) = ap (λ r. text_items (codes " #") ++ r) (sym (append-nil (text_items (prefixed 4 n))))
cps_pieces false l None = append-nil (text_items (codes " ") ++ text_items l) ∙ ap (λ r. text_items (codes " ") ++ r) (sym (append-nil (text_items l)))
cps_pieces false l (Some n) =
    ap (λ r. text_items (codes " ") ++ (text_items l ++ (text_items (codes ", #") ++ r))) (sym (append-nil (text_items (prefixed 4 n))))
