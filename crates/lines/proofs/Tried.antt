-- Operands that are tried one after the other. Assumes nothing.
use Rattle.std.proofs.Common.{◌≡◌, ℕ, zero, suc, ◌+◌, ◌<◌, ◌≤◌, Bool, true, false, cond, List, [], ◌∷◌, ◌++◌, All, length, get_or, take, drop, Some, None, Option, sym, refl, ap, ◌∙◌, ap₂, subst, append_assoc, append-nil, add-one, arith, drop-cons}
use Rattle.std.proofs.lemmas.List.{take_more, take_all, drop_all}
use Rattle.std.proofs.lemmas.List.Elements.{All-push}
use Rattle.armv7.specs.declared.fault.Place.TheVariants.{First, Second, Third, Fourth}
use Rattle.armv7.specs.declared.operand.Operand.{Operand}
use Rattle.armv7.specs.declared.operand.Operand.TheVariants.{Reg as One}
use Rattle.armv7.specs.declared.reg.Reg.TheVariants.{R0}
use Rattle.armv7.specs.Faults.{Refusal, place_index}
use Rattle.visitor.specs.Operands.{operand_refused}
use Rattle.lines.specs.Operands.{missing, reached}
use Rattle.lines.specs.Admission.{first_of, reached_refused, HasText}

-- the operand at a place, as the code reads it
abbrev at : List Operand → ℕ → Operand
at os i = get_or os i (One R0)

-- four operands are all of them
pub all_four : (os : List Operand) → length os ≡ 4 → at os 0 ∷ at os 1 ∷ at os 2 ∷ at os 3 ∷ [] ≡ os
all_four [] e = absurd (omega (arith, e))
all_four (a ∷ []) e = absurd (omega (arith, e))
all_four (a ∷ b ∷ []) e = absurd (omega (arith, e))
all_four (a ∷ b ∷ c ∷ []) e = absurd (omega (arith, e))
all_four (a ∷ b ∷ c ∷ d ∷ []) e = refl
all_four (a ∷ b ∷ c ∷ d ∷ f ∷ os) e = absurd (omega (arith, e))

-- the first i operands have a text, and none of them is Nothing
pub record TriedTo (os : List Operand) (i : ℕ) : Type 0 where
  pub refusal : reached_refused 0 os ≡ reached_refused i (drop i os)
  pub split : reached os ≡ take i os ++ reached (drop i os)
  pub texts : All HasText (take i os)

-- the places are numbered in order
numbered : (i : ℕ) → i < 4 → place_index (get_or (First ∷ Second ∷ Third ∷ Fourth ∷ []) i First) ≡ i
numbered zero h = refl
numbered (suc zero) h = refl
numbered (suc (suc zero)) h = refl
numbered (suc (suc (suc zero))) h = refl
numbered (suc (suc (suc (suc i)))) h = absurd (omega (arith, h))

-- whether an operand is refused does not hang on its place
place_free : (p q : ℕ) (o : Operand) → operand_refused p o ≡ None → operand_refused q o ≡ None
place_free p q o e = grind arith

pub past : (os : List Operand) (i : ℕ) → length os ≤ i → TriedTo os i → None ≡ reached_refused 0 os
past os i h so = sym (so.refusal ∙ ap (reached_refused i) (drop_all i os h))

pub past_at : (os : List Operand) (i : ℕ) → length os ≤ i → TriedTo os i → os ≡ reached os
past_at os i h so = sym (so.split ∙ ap₂ (λ a b. a ++ reached b) (take_all i os h) (drop_all i os h) ∙ append-nil os)

module _ (os : List Operand) (i : ℕ) (within : i < length os) (so : TriedTo os i) where
  here : drop i os ≡ at os i ∷ drop (i + 1) os
  here = drop-cons os i (One R0) within ∙ ap (λ n. at os i ∷ drop n os) (sym (add-one i))

  -- what is refused of the rest, and what of it is reached, by whether this operand is missing
  rest_refused : Bool → Option Refusal
  rest_refused b = cond b None (first_of (operand_refused i (at os i)) (reached_refused (suc i) (drop (i + 1) os)))

  rest_reached : Bool → List Operand
  rest_reached b = cond b [] (at os i ∷ reached (drop (i + 1) os))

  refused_by_rest : (b : Bool) → b ≡ missing (at os i) → reached_refused 0 os ≡ rest_refused b
  unfolding rest_refused
  refused_by_rest b e = so.refusal ∙ ap (reached_refused i) here ∙ ap rest_refused (sym e)

  reached_by_rest : (b : Bool) → b ≡ missing (at os i) → reached os ≡ take i os ++ rest_reached b
  unfolding rest_reached
  reached_by_rest b e = so.split ∙ ap (λ l. take i os ++ reached l) here ∙ ap (λ b. take i os ++ rest_reached b) (sym e)

  -- no more operands are reached
  module _ (none : true ≡ missing (at os i)) where
    pub ended : None ≡ reached_refused 0 os
    unfolding rest_refused
    ended = sym (refused_by_rest true none)

    pub ended_at : take i os ≡ reached os
    unfolding rest_reached
    ended_at = sym (reached_by_rest true none ∙ append-nil (take i os))

  module _ (some : false ≡ missing (at os i)) (tried : Option Refusal) (numbers : i < 4) (told : tried ≡ operand_refused (place_index (get_or (First ∷ Second ∷ Third ∷ Fourth ∷ []) i First)) (at os i)) where
    told_here : tried ≡ operand_refused i (at os i)
    told_here = told ∙ ap (λ n. operand_refused n (at os i)) (numbered i numbers)

    -- this operand is refused
    pub refused_here : (why : Refusal) → tried ≡ Some why → Some why ≡ reached_refused 0 os
    unfolding rest_refused
    refused_here why e = sym (refused_by_rest false some ∙ ap (λ o. first_of o (reached_refused (suc i) (drop (i + 1) os))) (sym told_here ∙ e))

    -- one operand more
    pub more : tried ≡ None → TriedTo os (i + 1)
    unfolding rest_refused rest_reached
    more e =
        let one = at os i ∷ [] in
        let taken : take (i + 1) os ≡ take i os ++ one = take_more os i (One R0) within in
        record {
          refusal = refused_by_rest false some ∙ ap (λ o. first_of o (reached_refused (suc i) (drop (i + 1) os))) (sym told_here ∙ e) ∙ ap (λ n. reached_refused n (drop (i + 1) os)) (sym (add-one i));
          split = reached_by_rest false some ∙ sym (append_assoc (take i os) one (reached (drop (i + 1) os))) ∙ ap (λ l. l ++ reached (drop (i + 1) os)) (sym taken);
          texts = subst (All HasText) (sym taken) (All-push HasText (take i os) (at os i) so.texts (place_free i 0 (at os i) (sym told_here ∙ e)));
        }
