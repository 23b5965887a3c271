-- How many bytes a register list has. Assumes nothing.
use Rattle.std.proofs.Common.{◌≡◌, ℕ, suc, ◌+◌, ◌-◌, ◌*◌, ◌/◌, ◌%◌, ◌^◌, ◌<◌, Bool, true, false, cond, eqb, List, [], ◌∷◌, map, length, refl, ap, ◌∙◌, ap₂, pow-suc, arith, eqb-true}
use lib.Count.{ones, ones_step, ones-le}
use borrow.Author.Tests.{eqb-false}
use Rattle.std.proofs.lemmas.Nat.{div_below}
use Rattle.armv7.specs.declared.reg.Reg.{Reg}
use Rattle.sink.proofs.Rows.{length_bytes}
use Rattle.visitor.specs.Texts.{reg_items, followed, joined, chosen, all_regs, list_items}
use Rattle.measurer.proofs.Sizes.{size, reg_bounds}

weigh : (Reg → ℕ) → List Reg → ℕ
weigh w [] = 0
weigh w (r ∷ rs) = w r + weigh w rs

-- the weights of the registers whose bits are set
picked : (Reg → ℕ) → List Reg → ℕ → ℕ
picked w [] m = 0
picked w (r ∷ rs) m = w r * (m % 2) + picked w rs (m / 2)

one : Reg → ℕ
one r = 1

-- what a name has above two bytes
above : Reg → ℕ
above r = size (reg_items r) - 2

followed_size : (rs : List Reg) → size (followed (map reg_items rs)) ≡ 4 * weigh one rs + weigh above rs
unfolding weigh one above
followed_size [] = refl
followed_size (r ∷ rs) =
    let least = (reg_bounds r).0 in
    ap (λ n. suc (suc n)) (length_bytes (reg_items r) (followed (map reg_items rs))) ∙ omega (arith, followed_size rs)

joined_size : (rs : List Reg) → size (joined (map reg_items rs)) ≡ 4 * weigh one rs + weigh above rs - 2
unfolding weigh one above
joined_size [] = refl
joined_size (r ∷ rs) =
    let least = (reg_bounds r).0 in
    length_bytes (reg_items r) (followed (map reg_items rs)) ∙ omega (arith, followed_size rs)

chosen_weight : (w : Reg → ℕ) (rs : List Reg) (m : ℕ) → weigh w (chosen rs m) ≡ picked w rs m
unfolding weigh picked
chosen_weight w [] m = refl
chosen_weight w (r ∷ rs) m = by (eqb (m % 2) 1) (eqb-true (m % 2) 1) (eqb-false (m % 2) 1) (chosen_weight w rs (m / 2))
  where
    by : (t : Bool) → (t ≡ true → m % 2 ≡ 1) → (t ≡ false → m % 2 ≡ 1 → ⊥) → weigh w (chosen rs (m / 2)) ≡ picked w rs (m / 2) → weigh w (cond t (r ∷ chosen rs (m / 2)) (chosen rs (m / 2))) ≡ w r * (m % 2) + picked w rs (m / 2)
    by true e f rest = omega (arith, ap (λ b. w r * b) (e refl))
    by false e f rest = let clear : m % 2 ≡ 0 = omega (arith, f refl) in omega (arith, ap (λ b. w r * b) clear)

picked_ones : (rs : List Reg) (m : ℕ) → m < 2 ^ length rs → picked one rs m ≡ ones m
unfolding picked one
picked_ones [] m h = omega (arith, ones-le 0 m h)
picked_ones (r ∷ rs) m h = omega (arith, picked_ones rs (m / 2) (div_below m 2 (2 ^ length rs) (omega arith) (omega (arith, h, pow-suc 2 (length rs)))), ones_step m)

-- the one name of three bytes is that of the register 10
picked_above : (m : ℕ) → picked above all_regs m ≡ m / 1024 % 2
unfolding picked above
picked_above m = omega arith

pub list_size : (m : ℕ) → m < 2 ^ 16 → size (list_items m) ≡ 1 + (4 * ones m + m / 1024 % 2 - 2 + 1)
list_size m h =
    let count = chosen_weight one all_regs m ∙ picked_ones all_regs m h in
    let wide = chosen_weight above all_regs m ∙ picked_above m in
    ap suc (length_bytes (joined (map reg_items (chosen all_regs m))) _ ∙ ap (λ n. n + 1) (joined_size (chosen all_regs m) ∙ ap₂ (λ a b. 4 * a + b - 2) count wide)) ∙ omega arith
