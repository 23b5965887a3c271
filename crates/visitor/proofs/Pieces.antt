-- Texts that are handed to a sink in pieces, or known under another name. Assumes nothing.
use Rattle.std.proofs.Common.{◌≡◌, ℕ, List, ◌++◌, IsErrAnd, Some, None, Option, Result, sym, subst}
use mathlib.Core.List.{map-append}
use Rattle.armv7.specs.declared.fault.Fault.{Fault}
use Rattle.armv7.specs.Faults.{Refusal, refusal}
use Rattle.sink.specs.Items.{Item, byte, text_items}
use Rattle.sink.specs.Meaning.{SinkOf}
use Rattle.sink.specs.Outcome.{outcome}
use Rattle.sink.specs.Printed.{Printed}
use Rattle.sink.proofs.Chain.{both, stop}

pub renamed : {S : Type 0} {sink : SinkOf S} {a b : List Item} {s t : S} {r : Option Refusal} → a ≡ b → Printed sink a s r t → Printed sink b s r t
renamed {sink = sink} {s = s} {t} {r} e p = subst (λ is. Printed sink is s r t) e p

module _ {S : Type 0} (sink : SinkOf S) where
  -- a text, and the text behind it
  pub texts : (p q : List ℕ) {s t u : S} {r : Option Refusal} → Printed sink (text_items p) s None t → Printed sink (text_items q) t r u → Printed sink (text_items (p ++ q)) s r u
  texts p q x y = renamed (sym (map-append byte p q)) (both sink (text_items p) (text_items q) x y)

  -- a text whose refusal was handed on, before the text behind it
  pub text_stop : (p q : List ℕ) {A : Type 0} {s t : S} (r : Result A Fault) (d : Fault) → Printed sink (text_items p) s (Some (refusal d)) t → IsErrAnd r (λ y. y ≡ d) → Printed sink (text_items (p ++ q)) s (outcome r) t
  text_stop p q r d x e = renamed (sym (map-append byte p q)) (stop sink (text_items p) (text_items q) r d x e)
