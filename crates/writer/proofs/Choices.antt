-- One of two texts by a flag, and a shift by an amount. Assumes nothing.
use Rattle.std.proofs.Common.{◌≡◌, ℕ, ◌⊎◌, Bool, true, false, cond, [], ◌++◌, codes, sym, refl, ap, ◌∙◌, ap₂, ⊎_elim, ne_eqb}
use Rattle.armv7.specs.declared.shift.ShiftStyle.{ShiftStyle}
use Rattle.armv7.specs.declared.shift.ShiftStyle.TheVariants.{LSL, LSR, ASR, ROR}
use Rattle.visitor.specs.Operands.{bang, minus}
use Rattle.visitor.specs.Texts.{style_text, amount_text, decimal}

pub close : (w : Bool) → cond w (codes "]!") (codes "]") ≡ codes "]" ++ bang w
close true = refl
close false = refl

pub comma : (a : Bool) → cond a (codes ", ") (codes ", -") ≡ codes ", " ++ minus a
comma true = refl
comma false = refl

pub past_blank : (a : Bool) → cond a (codes "],  ") (codes "], - ") ≡ codes "], " ++ (minus a ++ codes " ")
past_blank true = refl
past_blank false = refl

-- an amount above 0
pub counted : (s : ShiftStyle) (n : ℕ) → (n ≡ 0 → ⊥) → style_text s ++ decimal n ≡ amount_text s n
counted LSL n h = sym (ap (λ t. cond t [] (style_text LSL ++ decimal n)) (ne_eqb n 0 h))
counted LSR n h = sym (ap (λ t. style_text LSR ++ decimal (cond t 32 n)) (ne_eqb n 0 h))
counted ASR n h = sym (ap (λ t. style_text ASR ++ decimal (cond t 32 n)) (ne_eqb n 0 h))
counted ROR n h = sym (ap (λ t. cond t (codes ", rrx") (style_text ROR ++ decimal n)) (ne_eqb n 0 h))

-- an amount of 0, where it stands for 32
full_at : {s t : ShiftStyle} {n : ℕ} → s ≡ t → n ≡ 0 → style_text t ++ decimal 32 ≡ amount_text t 0 → style_text s ++ decimal 32 ≡ amount_text s n
full_at e z f = ap (λ x. style_text x ++ decimal 32) e ∙ f ∙ ap₂ amount_text (sym e) (sym z)

pub full : (s : ShiftStyle) (n : ℕ) → (s ≡ LSR) ⊎ (s ≡ ASR) → n ≡ 0 → style_text s ++ decimal 32 ≡ amount_text s n
full s n k z = ⊎_elim (λ e. full_at e z refl) (λ e. full_at e z refl) k
