-- A row that is not refused fits the room. Assumes nothing.
use Rattle.std.proofs.Common.{◌≡◌, ℕ, suc, ◌≤◌, Bool, true, false, cond, ltb, Some, None, Option, refl, arith, ltb-false}
use Rattle.armv7.specs.Faults.{Refusal, refused_with, no_operand}
use Rattle.page.specs.Rows.{row_refused}

pub clash : {A : Type 0} → ◌≡◌ {A = ℕ} 0 1 → A
clash z = absurd (omega arith)

fits_room : (left size : ℕ) → row_refused None left size ≡ None → suc size ≤ left
fits_room left size e = by (ltb left (suc size)) (ltb-false left (suc size)) e
  where
    by : (t : Bool) → (t ≡ false → suc size ≤ left) → ◌≡◌ {A = Option Refusal} (cond t (Some (refused_with 10 no_operand)) None) None → suc size ≤ left
    by true f e = clash cc
    by false f e = f refl

pub row_fits : (o : Option Refusal) (left size : ℕ) → row_refused o left size ≡ None → (o ≡ None) × (suc size ≤ left)
row_fits None left size e = (refl, fits_room left size e)
row_fits (Some why) left size e = clash cc
