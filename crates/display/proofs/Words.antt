-- A word that is written in an opcode span. Assumes nothing.
use Rattle.std.proofs.Common.{◌≡◌, ℕ, false, cond, eqb, List, [], ◌∷◌, ◌++◌, length, take, drop, IsErrAnd, Some, None, Result, refl, ap, ◌∙◌, arith}
use Rattle.armv7.specs.declared.condition.ConditionCode.{ConditionCode}
use Rattle.armv7.specs.Conditions.{condition_name, condition_number}
use Rattle.armv7.specs.declared.fault.Fault.{Fault}
use Rattle.armv7.specs.Faults.{refusal}
use Rattle.sink.specs.declared.sink.Edge.TheVariants.{Start, End}
use Rattle.sink.specs.declared.sink.Span.TheVariants.{Opcode}
use Rattle.sink.specs.Items.{edge, text_items}
use Rattle.sink.specs.Meaning.{SinkOf, Marks}
use Rattle.sink.specs.Outcome.{outcome}
use Rattle.sink.specs.Printed.{Printed}
use Rattle.sink.proofs.Chain.{both, stop, edged}
use Rattle.lines.specs.Lines.{condition_suffix, word_items}

two_letters : (n : List ℕ) → length n ≡ 2 → take 1 n ++ take 1 (drop 1 n) ≡ n
two_letters [] e = absurd (omega arith)
two_letters (x ∷ []) e = absurd (omega arith)
two_letters (x ∷ y ∷ []) e = refl
two_letters (x ∷ y ∷ z ∷ n) e = absurd (omega arith)

-- the two letters of a condition that is not AL
pub letters_suffix : (c : ConditionCode) (n : List ℕ) → n ≡ condition_name c → length n ≡ 2 → false ≡ eqb (condition_number c) 14 → take 1 n ++ take 1 (drop 1 n) ≡ condition_suffix c
letters_suffix c n e l f = two_letters n l ∙ e ∙ ap (λ b. cond b [] (condition_name c)) f

module _ {S : Type 0} (sink : SinkOf S) (word : List ℕ) {s t u : S} where
  pub in_word : {v : S} → Marks sink Start Opcode s t → Printed sink (text_items word) t None u → Marks sink End Opcode u v → Printed sink (word_items word) s None v
  in_word a x b = both sink (edge Start Opcode ∷ []) _ (edged sink Start Opcode a) (both sink (text_items word) _ x (edged sink End Opcode b))

  pub in_word_stop : {A : Type 0} (r : Result A Fault) (d : Fault) → Marks sink Start Opcode s t → Printed sink (text_items word) t (Some (refusal d)) u → IsErrAnd r (λ y. y ≡ d) → Printed sink (word_items word) s (outcome r) u
  in_word_stop r d a x e = both sink (edge Start Opcode ∷ []) _ (edged sink Start Opcode a) (stop sink (text_items word) (edge End Opcode ∷ []) r d x e)
