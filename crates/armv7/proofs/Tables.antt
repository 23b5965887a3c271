-- A table of references to bytes is read as the list of what they point to. Assumes nothing.
use Rattle.std.proofs.Common.{◌≡◌, ℕ, zero, suc, ◌<◌, List, [], ◌∷◌, map, length, get_or, refl, le_of_suc-le-suc, not-suc-le-zero, Bor}

pub now_at : (rs : List (Bor (List ℕ))) (n : ℕ) (d : Bor (List ℕ)) → n < length rs → (get_or rs n d).now ≡ get_or (map (λ x. x.now) rs) n []
now_at [] n d h = absurd (not-suc-le-zero h)
now_at (r ∷ rs) zero d h = refl
now_at (r ∷ rs) (suc n) d h = now_at rs n d (le_of_suc-le-suc h)
