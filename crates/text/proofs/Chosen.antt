-- A register list, one register after the other. Assumes nothing.
use Rattle.std.proofs.Common.{◌≡◌, ℕ, suc, ◌+◌, ◌/◌, ◌%◌, ◌^◌, ◌<◌, Bool, true, false, cond, eqb, ltb, List, [], ◌∷◌, ◌++◌, map, length, get_or, drop, codes, sym, refl, ap, ◌∙◌, append_assoc, eq-eqb, ne_eqb, subst, pow-suc, arith, ltb-true, ltb-false, le-ltb, lt-ltb}
use Rattle.std.proofs.lemmas.Bool.{eqb-true, eqb-false}
use Rattle.std.proofs.lemmas.List.{drop_more}
use Rattle.armv7.specs.declared.reg.Reg.{Reg}
use Rattle.sink.specs.Items.{Item, text_items}
use Rattle.visitor.specs.Texts.{flagged, reg_items, followed, joined, chosen, all_regs}

-- a register, before a comma if more follow
abbrev pub next_items : Reg → Bool → List Item
next_items r more = reg_items r ++ text_items (flagged more (codes ", "))

-- a number and its half are 0 alike, unless it is odd
halved : (m : ℕ) → (m % 2 ≡ 1 → ⊥) → ltb 0 (m / 2) ≡ ltb 0 m
halved m e = by (ltb 0 m) refl
  where
    by : (t : Bool) → ltb 0 m ≡ t → ltb 0 (m / 2) ≡ ltb 0 m
    by true h = lt-ltb 0 (m / 2) (omega (arith, e, ltb-true 0 m h)) ∙ sym h
    by false h = le-ltb 0 (m / 2) (omega (arith, ltb-false 0 m h)) ∙ sym h

more_than_one : (m : ℕ) → ltb 0 (m / 2) ≡ ltb 1 m
more_than_one m = by (ltb 1 m) refl
  where
    by : (t : Bool) → ltb 1 m ≡ t → ltb 0 (m / 2) ≡ ltb 1 m
    by true h = lt-ltb 0 (m / 2) (omega (arith, ltb-true 1 m h)) ∙ sym h
    by false h = le-ltb 0 (m / 2) (omega (arith, ltb-false 1 m h)) ∙ sym h

-- behind a register there is a comma if any bit is left
comma_first : (rs : List Reg) (m : ℕ) → m < 2 ^ length rs → followed (map reg_items (chosen rs m)) ≡ text_items (flagged (ltb 0 m) (codes ", ")) ++ joined (map reg_items (chosen rs m))
comma_first [] m h = sym (ap (λ t. text_items (flagged t (codes ", ")) ++ []) (le-ltb 0 m (omega (arith, h))))
comma_first (r ∷ rs) m h = by (eqb (m % 2) 1) refl (comma_first rs (m / 2) (omega (arith, h, pow-suc 2 (length rs))))
  where
    by : (t : Bool) → eqb (m % 2) 1 ≡ t → followed (map reg_items (chosen rs (m / 2))) ≡ text_items (flagged (ltb 0 (m / 2)) (codes ", ")) ++ joined (map reg_items (chosen rs (m / 2))) → followed (map reg_items (cond t (r ∷ chosen rs (m / 2)) (chosen rs (m / 2)))) ≡ text_items (flagged (ltb 0 m) (codes ", ")) ++ joined (map reg_items (cond t (r ∷ chosen rs (m / 2)) (chosen rs (m / 2))))
    by true e f = ap (λ t. text_items (flagged t (codes ", ")) ++ (reg_items r ++ followed (map reg_items (chosen rs (m / 2))))) (sym (lt-ltb 0 m (omega (arith, eqb-true (m % 2) 1 e))))
    by false e f = f ∙ ap (λ t. text_items (flagged t (codes ", ")) ++ joined (map reg_items (chosen rs (m / 2)))) (halved m (eqb-false (m % 2) 1 e))

-- what is still to be written, from the register at a place on, with these bits for it and those behind it
abbrev pub ahead : ℕ → ℕ → List Item
ahead rest i = joined (map reg_items (chosen (drop i all_regs) rest))

-- there are no more bits than registers
abbrev pub Within : ℕ → ℕ → Type 0
Within rest i = rest < 2 ^ length (drop i all_regs)

module _ (rest i : ℕ) (d : Reg) (h : i < 16) where
  cut : drop i all_regs ≡ get_or all_regs i d ∷ drop (i + 1) all_regs
  cut = drop_more all_regs i d h

  pub within_more : Within rest i → Within (rest / 2) (i + 1)
  within_more w =
      let all : rest < 2 ^ suc (length (drop (i + 1) all_regs)) = subst (λ l. rest < 2 ^ length l) cut w in
      omega (arith, all, pow-suc 2 (length (drop (i + 1) all_regs)))

  -- the register at the place i is written
  pub set_here : Within rest i → rest % 2 ≡ 1 → ahead rest i ≡ next_items (get_or all_regs i d) (ltb 1 rest) ++ ahead (rest / 2) (i + 1)
  set_here w e =
      let r = get_or all_regs i d in
      let rs = drop (i + 1) all_regs in
      ap (λ l. joined (map reg_items (chosen l rest))) cut
      ∙ ap (λ t. joined (map reg_items (cond t (r ∷ chosen rs (rest / 2)) (chosen rs (rest / 2))))) (eq-eqb (rest % 2) 1 e)
      ∙ ap (λ l. reg_items r ++ l) (comma_first rs (rest / 2) (within_more w))
      ∙ ap (λ t. reg_items r ++ (text_items (flagged t (codes ", ")) ++ ahead (rest / 2) (i + 1))) (more_than_one rest)
      ∙ sym (append_assoc (reg_items r) (text_items (flagged (ltb 1 rest) (codes ", "))) (ahead (rest / 2) (i + 1)))

  -- it is left out
  pub clear_here : (rest % 2 ≡ 1 → ⊥) → ahead rest i ≡ ahead (rest / 2) (i + 1)
  clear_here e =
      let r = get_or all_regs i d in
      let rs = drop (i + 1) all_regs in
      ap (λ l. joined (map reg_items (chosen l rest))) cut
      ∙ ap (λ t. joined (map reg_items (cond t (r ∷ chosen rs (rest / 2)) (chosen rs (rest / 2))))) (ne_eqb (rest % 2) 1 e)

pub none_ahead : (rest : ℕ) → ahead rest 16 ≡ []
none_ahead rest = refl
