-- The registers of a list are read back from its text. Assumes nothing.
use Rattle.std.proofs.Common.{◌≡◌, ℕ, suc, true, cond, ◌&&◌, eqb, ltb, List, [], ◌∷◌, ◌++◌, length, get_or, sym, refl, ap, ◌∙◌, ap₂, append_assoc, arith}
use Rattle.std.specs.List.{AllByRecursion}
use Rattle.std.proofs.lemmas.Bool.{eqb-true, ltb-true, false≢true}
use Rattle.armv7.specs.declared.reg.Reg.{Reg}
use Rattle.armv7.specs.Registers.{reg_name, reg_names, reg_number}
use Rattle.blocks.specs.Grammar.{list_rest, list_text, Listed, bits}
use Rattle.blocks.proofs.Split.{split, same_head, same_rest, Stops, Plain, all_plain}
use Rattle.blocks.proofs.Tables.{at_register, same_registers}

pub plain_name : (r : Reg) → AllByRecursion Plain (reg_name r)
plain_name r = all_plain (reg_name r) (grind arith)

-- the place of a name in the table, by three letters
abbrev place : List (List ℕ) → List ℕ → ℕ
place [] t = 0
place (n ∷ ns) t = cond (eqb (get_or t 0 0) (get_or n 0 0) && (eqb (get_or t 1 0) (get_or n 1 0) && eqb (get_or t 2 0) (get_or n 2 0))) 0 (suc (place ns t))

placed : (r : Reg) → place reg_names (reg_name r) ≡ reg_number r
placed r = eqb-true _ _ (at_register (λ t. eqb (place reg_names (reg_name t)) (reg_number t)) refl r)

pub same_name : (r t : Reg) → reg_name r ≡ reg_name t → r ≡ t
same_name r t e = same_registers r t (sym (placed r) ∙ ap (place reg_names) e ∙ placed t)

some_name : (r : Reg) → ltb 0 (length (reg_name r)) ≡ true
some_name r = grind arith

no_name : (r : Reg) → [] ≡ reg_name r → ⊥
no_name r e = let l = ap length e in omega (arith, ltb-true 0 (length (reg_name r)) (some_name r))

rest_stops : (rs : List Reg) (x : List ℕ) → Stops Plain (list_rest rs ++ x)
rest_stops [] x = false≢true
rest_stops (r ∷ rs) x = false≢true

-- what stands behind the list is told apart too
rest_read : (rs ts : List Reg) (x y : List ℕ) → list_rest rs ++ x ≡ list_rest ts ++ y → (rs ≡ ts) × (x ≡ y)
rest_read [] [] x y e = (refl, same_rest e)
rest_read [] (t ∷ ts) x y e = let z = same_head e in absurd (omega arith)
rest_read (r ∷ rs) [] x y e = let z = same_head e in absurd (omega arith)
rest_read (r ∷ rs) (t ∷ ts) x y e =
    let s = split Plain (reg_name r) (reg_name t) (list_rest rs ++ x) (list_rest ts ++ y) (plain_name r) (plain_name t) (rest_stops rs x) (rest_stops ts y) (sym (append_assoc (reg_name r) (list_rest rs) x) ∙ same_rest (same_rest e) ∙ append_assoc (reg_name t) (list_rest ts) y) in
    let k = rest_read rs ts x y s.1 in
    (ap₂ (λ z zs. z ∷ zs) (same_name r t s.0) k.0, k.1)

pub list_read : (rs ts : List Reg) (x y : List ℕ) → list_text rs ++ x ≡ list_text ts ++ y → (rs ≡ ts) × (x ≡ y)
list_read [] [] x y e = (refl, same_rest (same_rest e))
list_read [] (t ∷ ts) x y e =
    absurd (no_name t (split Plain [] (reg_name t) (125 ∷ x) (list_rest ts ++ y) tt (plain_name t) false≢true (rest_stops ts y) (same_rest e ∙ append_assoc (reg_name t) (list_rest ts) y)).0)
list_read (r ∷ rs) [] x y e =
    absurd (no_name r (split Plain [] (reg_name r) (125 ∷ y) (list_rest rs ++ x) tt (plain_name r) false≢true (rest_stops rs x) (same_rest (sym e) ∙ append_assoc (reg_name r) (list_rest rs) x)).0)
list_read (r ∷ rs) (t ∷ ts) x y e =
    rest_read (r ∷ rs) (t ∷ ts) x y (ap (λ z. 44 ∷ 32 ∷ z) (same_rest e))

pub listed_read : {a b : List ℕ} {m n : ℕ} (x y : List ℕ) → Listed a m → Listed b n → a ++ x ≡ b ++ y → (m ≡ n) × (x ≡ y)
listed_read x y f g e =
    let r = list_read f.regs g.regs x y (ap (λ t. t ++ x) (sym f.written) ∙ e ∙ ap (λ t. t ++ y) g.written) in
    (f.stands ∙ ap bits r.0 ∙ sym g.stands, r.1)
