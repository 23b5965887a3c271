-- A branch distance is its direction, and then how far it goes. Assumes nothing.
use Rattle.std.proofs.Common.{◌≡◌, ℕ, ◌*◌, cond, List, ◌++◌, ℤ, pos, negsuc, nat_abs, codes, refl, ap, arith, le-ltb}
use Rattle.std.specs.Int.Signed.{lt_z}
use Rattle.visitor.specs.Texts.{prefixed, branch_text}

abbrev pub way : ℤ → List ℕ
way z = cond (lt_z z (pos 0)) (codes "$-") (codes "$+")

pub branch_parts : (scale : ℕ) (z : ℤ) → way z ++ prefixed 8 (scale * nat_abs z) ≡ branch_text scale z
branch_parts scale (pos n) = ap (λ t. cond t (codes "$-") (codes "$+") ++ prefixed 8 (scale * n)) (le-ltb n 0 (omega arith))
branch_parts scale (negsuc n) = refl
