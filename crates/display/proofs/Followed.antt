-- Operands that are written one after the other, each behind a comma. Assumes nothing.
use Rattle.std.proofs.Common.{◌≡◌, ℕ, ◌+◌, ◌-◌, ◌<◌, ◌≤◌, false, eqb, List, [], ◌∷◌, ◌++◌, All, map, length, get_or, take, drop, IsErrAnd, Some, None, codes, Option, Result, sym, refl, ap, ◌∙◌, subst, append_assoc, append-nil, add-one, arith, drop-cons}
use mathlib.Core.List.{map-append}
use Rattle.std.proofs.lemmas.Bool.{true≢false}
use Rattle.std.proofs.lemmas.List.{take_more, take_all, take-append-drop}
use Rattle.armv7.specs.declared.fault.Fault.{Fault}
use Rattle.armv7.specs.declared.operand.Operand.{Operand}
use Rattle.armv7.specs.declared.operand.Operand.TheVariants.{Reg as One}
use Rattle.armv7.specs.declared.reg.Reg.TheVariants.{R0}
use Rattle.armv7.specs.Faults.{Refusal, refusal}
use Rattle.sink.specs.Items.{Item, text_items}
use Rattle.sink.specs.Meaning.{SinkOf}
use Rattle.sink.specs.Printed.{Printed}
use Rattle.sink.specs.Outcome.{outcome}
use Rattle.sink.proofs.Chain.{both, stop}
use Rattle.visitor.specs.Operands.{operand_items, operand_refused}
use Rattle.visitor.specs.Texts.{followed}
use Rattle.visitor.specs.Visits.{PrintedUnless}
use Rattle.visitor.proofs.Pieces.{renamed}
use Rattle.lines.specs.Admission.{HasText}

pub followed_append : (xs ys : List (List Item)) → followed (xs ++ ys) ≡ followed xs ++ followed ys
followed_append [] ys = refl
followed_append (x ∷ xs) ys =
    ap (λ r. text_items (codes ", ") ++ r) (ap (λ r. x ++ r) (followed_append xs ys) ∙ sym (append_assoc x (followed xs) (followed ys)))

-- an operand that is reached and not refused is printed
pub printed_at : {S : Type 0} {sink : SinkOf S} (o : Operand) {s t : S} {r : Option Refusal} → operand_refused 0 o ≡ None → PrintedUnless sink (operand_refused 0 o) (operand_items o) s r t → Printed sink (operand_items o) s r t
printed_at {sink = sink} o {s} {t} {r} e p = subst (λ f. PrintedUnless sink f (operand_items o) s r t) e p

-- the first i operands were written
abbrev pub Sofar : {S : Type 0} → SinkOf S → List Operand → ℕ → S → S → Type 0
Sofar sink os i s t = Printed sink (followed (map operand_items (take i os))) s None t

-- the operand at a place, as the code reads it
abbrev pub at : List Operand → ℕ → Operand
at os i = get_or os i (One R0)

-- a row that is not empty
pub some_there : (os : List Operand) → false ≡ eqb (length os) 0 → 1 ≤ length os
some_there [] e = absurd (true≢false (sym e))
some_there (o ∷ os) e = omega arith

-- the first of a row, and the others
pub first_split : (os : List Operand) → 1 ≤ length os → at os 0 ∷ take (length os - 1) (drop 1 os) ≡ os
first_split [] h = absurd (omega (arith, h))
first_split (o ∷ os) h = ap (λ l. o ∷ l) (take_all (length (o ∷ os) - 1) os (omega arith))

module _ {S : Type 0} (sink : SinkOf S) (os : List Operand) where
  pub past_end : {i : ℕ} {s t : S} → length os ≤ i → Sofar sink os i s t → Printed sink (followed (map operand_items os)) s None t
  past_end {i} h so = renamed (ap (λ l. followed (map operand_items l)) (take_all i os h)) so

  module _ {i : ℕ} {s t : S} (so : Sofar sink os i s t) (texts : All HasText os) (within : i < length os) where
    front : List Item
    front = followed (map operand_items (take i os))

    row : List Item
    row = operand_items (at os i)

    rest : List Item
    rest = followed (map operand_items (drop (i + 1) os))

    cut : take i os ++ (at os i ∷ drop (i + 1) os) ≡ os
    cut = ap (λ l. take i os ++ l) (ap (λ n. at os i ∷ drop n os) (add-one i) ∙ sym (drop-cons os i (One R0) within)) ∙ take-append-drop i os

    whole : followed (map operand_items os) ≡ front ++ (text_items (codes ", ") ++ (row ++ rest))
    unfolding front row rest
    whole =
        sym (ap (λ l. followed (map operand_items l)) cut) ∙ ap followed (map-append operand_items (take i os) (at os i ∷ drop (i + 1) os))
        ∙ followed_append (map operand_items (take i os)) (map operand_items (at os i ∷ drop (i + 1) os))

    -- a comma, or an operand behind it, found no room
    pub comma_stop : {u : S} (r : Result (Unit {0}) Fault) (d : Fault) → Printed sink (text_items (codes ", ")) t (Some (refusal d)) u → IsErrAnd r (λ y. y ≡ d) → Printed sink (followed (map operand_items os)) s (outcome r) u
    unfolding front
    comma_stop r d p e = renamed (sym whole) (both sink front _ so (stop sink (text_items (codes ", ")) (row ++ rest) r d p e))

    pub operand_stop : {u v : S} (r : Result (Unit {0}) Fault) (d : Fault) → Printed sink (text_items (codes ", ")) t None u → PrintedUnless sink (operand_refused 0 (at os i)) (operand_items (at os i)) u (Some (refusal d)) v → IsErrAnd r (λ y. y ≡ d) → Printed sink (followed (map operand_items os)) s (outcome r) v
    unfolding front row
    operand_stop r d p q e =
        renamed (sym whole) (both sink front _ so (both sink (text_items (codes ", ")) _ p (stop sink row rest r d (printed_at (at os i) (texts i (One R0) within) q) e)))

    -- one operand more
    pub more : {u v : S} → Printed sink (text_items (codes ", ")) t None u → PrintedUnless sink (operand_refused 0 (at os i)) (operand_items (at os i)) u None v → Sofar sink os (i + 1) s v
    unfolding front row
    more p q =
        let one = at os i ∷ [] in
        renamed (sym (ap (λ l. followed (map operand_items l)) (take_more os i (One R0) within) ∙ ap followed (map-append operand_items (take i os) one) ∙ followed_append (map operand_items (take i os)) (row ∷ [])))
        (both sink front _ so (both sink (text_items (codes ", ")) _ p (renamed (sym (append-nil row)) (printed_at (at os i) (texts i (One R0) within) q))))
