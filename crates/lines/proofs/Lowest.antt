-- How many letters a mask asks for, by its lowest set digit. Assumes nothing.
use Rattle.std.proofs.Common.{◌≡◌, ℕ, zero, suc, ◌-◌, ◌/◌, ◌%◌, ◌<◌, cond, min, eqb, refl, ap, ◌∙◌, arith}
use Rattle.std.proofs.Math.Nat.{div-div-eq-div-mul}
use lib.Count.{count_trailing_zeros, under}
use Rattle.lines.specs.Lines.{letter_count}

-- three digits, the lowest first
lowest : (a b c rest : ℕ) → a < 2 → b < 2 → c < 2 → 3 - min (under a (under b (under c rest))) 3 ≡ cond (eqb a 1) 3 (cond (eqb b 1) 2 (cond (eqb c 1) 1 0))
lowest (suc zero) b c rest h i j = refl
lowest zero (suc zero) c rest h i j = refl
lowest zero zero (suc zero) rest h i j = refl
lowest zero zero zero rest h i j = omega arith
lowest (suc (suc a)) b c rest h i j = absurd (omega (arith, h))
lowest zero (suc (suc b)) c rest h i j = absurd (omega (arith, i))
lowest zero zero (suc (suc c)) rest h i j = absurd (omega (arith, j))

pub letters_above : (mask : ℕ) → 3 - min (count_trailing_zeros 32 mask) 3 ≡ letter_count mask
unfolding count_trailing_zeros
letters_above mask =
    lowest (mask % 2) (mask / 2 % 2) (mask / 2 / 2 % 2) (count_trailing_zeros 29 (mask / 2 / 2 / 2)) (omega arith) (omega arith) (omega arith)
    ∙ ap (λ n. cond (eqb (mask % 2) 1) 3 (cond (eqb (mask / 2 % 2) 1) 2 (cond (eqb (n % 2) 1) 1 0))) (div-div-eq-div-mul mask 2 2)
