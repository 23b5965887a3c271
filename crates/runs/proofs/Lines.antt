-- Lines one below the other, and the calls that were accepted. Assumes nothing.
use Rattle.std.proofs.Common.{◌≡◌, ℕ, List, [], ◌∷◌, ◌++◌, map, length, get_or, drop, sym, refl, ap, ◌∙◌, ap₂, append_assoc, arith, length-append}
use Rattle.sink.specs.Items.{Item, byte, bytes}
use Rattle.sink.proofs.Rows.{bytes_append}
use Rattle.blocks.specs.Pages.{page}
use Rattle.page.specs.declared.entry.Entry.{Entry}
use Rattle.page.specs.Answers.{Told, lines, fault, told}
use Rattle.runs.specs.Runs.{if_accepted, accepted, page_items}

pub accepted_append : (a b : List Entry) → accepted (a ++ b) ≡ accepted a ++ accepted b
accepted_append [] b = refl
accepted_append (e ∷ a) b = by (told e.answer) (accepted_append a b)
  where
    by : (t : Told) → accepted (a ++ b) ≡ accepted a ++ accepted b → if_accepted t (e.call ∷ accepted (a ++ b)) (accepted (a ++ b)) ≡ if_accepted t (e.call ∷ accepted a) (accepted a) ++ accepted b
    by (lines n) h = ap (λ r. e.call ∷ r) h
    by (fault why n) h = h

pub items_append : (a b : List (List Item)) → page_items (a ++ b) ≡ page_items a ++ page_items b
items_append [] b = refl
items_append (l ∷ a) b = ap (λ r. l ++ byte 10 ∷ r) (items_append a b) ∙ sym (append_assoc l (byte 10 ∷ page_items a) (page_items b))

pub bytes_page : (ls : List (List Item)) → bytes (page_items ls) ≡ page (map bytes ls)
bytes_page [] = refl
bytes_page (l ∷ ls) = bytes_append l (byte 10 ∷ page_items ls) ∙ ap (λ r. bytes l ++ 10 ∷ r) (bytes_page ls)

pub none_there : {A : Type 0} (a : List A) (x : A) (b : List A) → [] ≡ a ++ x ∷ b → ⊥
none_there a x b h = let z : ◌≡◌ {A = ℕ} 0 (length (a ++ x ∷ b)) = ap length h in omega (arith, length-append a (x ∷ b))

-- an element of a row with one more is the last, or was there before
pub data Place {A : Type 0} (es : List A) (y : A) (a : List A) (x : A) : Type 0 where
  last : a ≡ es → x ≡ y → Place es y a x
  before : (later : List A) → es ≡ a ++ x ∷ later → Place es y a x

pub place : {A : Type 0} (es : List A) (y : A) (a : List A) (x : A) (b : List A) → es ++ y ∷ [] ≡ a ++ x ∷ b → Place es y a x
place [] y [] x b e = last refl (sym (ap (λ l. get_or l 0 y) e))
place [] y (z ∷ a) x b e = absurd (none_there a x b (ap (drop 1) e))
place (z ∷ es) y [] x b e = before es (ap (λ h. h ∷ es) (ap (λ l. get_or l 0 z) e))
place (z ∷ es) y (w ∷ a) x b e = behind (place es y a x b (ap (drop 1) e))
  where
    head : z ≡ w
    head = ap (λ l. get_or l 0 z) e

    behind : Place es y a x → Place (z ∷ es) y (w ∷ a) x
    behind (last f g) = last (ap₂ (λ h t. h ∷ t) (sym head) f) g
    behind (before later h) = before later (ap₂ (λ k t. k ∷ t) head h)
