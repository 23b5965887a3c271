-- The registers that a mask chooses are in order, and stand for its low bits. Assumes nothing.
use Rattle.std.proofs.Common.{◌≡◌, ℕ, suc, ◌+◌, ◌*◌, ◌/◌, ◌%◌, ◌^◌, ◌≤◌, Bool, true, false, cond, eqb, List, [], ◌∷◌, length, sym, refl, ap, ◌∙◌, subst, one-mul, pow-suc, mul-zero, arith, pow_pos}
use lib.Arith.{mod-mul}
use Rattle.std.proofs.lemmas.Bool.{eqb-true, eqb-false}
use Rattle.armv7.specs.declared.reg.Reg.{Reg}
use Rattle.armv7.specs.Registers.{reg_number}
use Rattle.visitor.specs.Texts.{chosen, all_regs}
use Rattle.blocks.specs.Grammar.{InOrder, bits}
use Rattle.blocks.specs.Sheets.{low}

-- registers numbered from n on without a gap
abbrev Run : ℕ → List Reg → Type 0
Run n [] = Unit {0}
Run n (r ∷ rs) = (reg_number r ≡ n) × Run (suc n) rs

order_from : (n k : ℕ) (rs : List Reg) → n ≤ k → InOrder k rs → InOrder n rs
order_from n k [] h o = tt
order_from n k (r ∷ rs) h o = (omega (arith, o.0), o.1)

run_order : (n : ℕ) (rs : List Reg) (mask : ℕ) → Run n rs → InOrder n (chosen rs mask)
run_order n [] mask h = tt
run_order n (r ∷ rs) mask h = by (eqb (mask % 2) 1) (run_order (suc n) rs (mask / 2) h.1)
  where
    by : (b : Bool) → InOrder (suc n) (chosen rs (mask / 2)) → InOrder n (cond b (r ∷ chosen rs (mask / 2)) (chosen rs (mask / 2)))
    by true o = (omega (arith, h.0), subst (λ k. InOrder (suc k) (chosen rs (mask / 2))) (sym h.0) o)
    by false o = order_from n (suc n) (chosen rs (mask / 2)) (omega arith) o

-- the registers of a list; shut, since it has as many forms as there are masks
unfoldable pub the_regs : ℕ → List Reg
the_regs mask = chosen all_regs mask

whole : Run 0 all_regs
whole = (refl, (refl, (refl, (refl, (refl, (refl, (refl, (refl, (refl, (refl, (refl, (refl, (refl, (refl, (refl, (refl, tt))))))))))))))))

pub regs_order : (mask : ℕ) → InOrder 0 (the_regs mask)
unfolding the_regs
regs_order mask = run_order 0 all_regs mask whole

low_bit : (k mask : ℕ) → mask % 2 ^ suc k ≡ (mask / 2 % 2 ^ k) * 2 + mask % 2
low_bit k mask = ap (λ p. mask % p) (pow-suc 2 k) ∙ mod-mul mask (pow_pos k) (omega arith)

odd_step : (p b q : ℕ) → b ≡ p * 2 * q → p + b ≡ p * (q * 2 + 1)
odd_step p b q e = omega arith

even_step : (p b q : ℕ) → b ≡ p * 2 * q → b ≡ p * (q * 2 + 0)
even_step p b q e = omega arith

run_bits : (n : ℕ) (rs : List Reg) (mask : ℕ) → Run n rs → bits (chosen rs mask) ≡ 2 ^ n * (mask % 2 ^ length rs)
run_bits n [] mask h = let none : mask % 1 ≡ 0 = omega arith in sym (ap (λ k. 2 ^ n * k) none ∙ mul-zero (2 ^ n))
run_bits n (r ∷ rs) mask h = by (eqb (mask % 2) 1) refl (run_bits (suc n) rs (mask / 2) h.1)
  where
    q : ℕ
    q = mask / 2 % 2 ^ length rs

    last : {k : ℕ} → mask % 2 ≡ k → 2 ^ n * (q * 2 + k) ≡ 2 ^ n * (mask % 2 ^ suc (length rs))
    last e = ap (λ m. 2 ^ n * (q * 2 + m)) (sym e) ∙ ap (λ m. 2 ^ n * m) (sym (low_bit (length rs) mask))

    by : (b : Bool) → eqb (mask % 2) 1 ≡ b → bits (chosen rs (mask / 2)) ≡ 2 ^ suc n * q →
        bits (cond b (r ∷ chosen rs (mask / 2)) (chosen rs (mask / 2))) ≡ 2 ^ n * (mask % 2 ^ suc (length rs))
    by true e o =
        ap (λ k. 2 ^ k + bits (chosen rs (mask / 2))) h.0
        ∙ odd_step (2 ^ n) (bits (chosen rs (mask / 2))) q (o ∙ ap (λ p. p * q) (pow-suc 2 n))
        ∙ last (eqb-true (mask % 2) 1 e)
    by false e o =
        let even : mask % 2 ≡ 0 = omega (arith, eqb-false (mask % 2) 1 e) in
        even_step (2 ^ n) (bits (chosen rs (mask / 2))) q (o ∙ ap (λ p. p * q) (pow-suc 2 n)) ∙ last even

pub regs_stand : (mask : ℕ) → low mask ≡ bits (the_regs mask)
unfolding the_regs
regs_stand mask = sym (run_bits 0 all_regs mask whole ∙ one-mul (mask % 65536))
