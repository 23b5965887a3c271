-- A print that may be refused before anything is written. Assumes nothing.
use Rattle.std.proofs.Common.{◌≡◌, List, Some, None, Option, subst}
use Rattle.armv7.specs.Faults.{Refusal}
use Rattle.sink.specs.Items.{Item}
use Rattle.sink.specs.Meaning.{SinkOf}
use Rattle.sink.specs.Printed.{Printed}
use Rattle.visitor.specs.Visits.{PrintedUnless}

module _ {S : Type 0} (sink : SinkOf S) (f : Option Refusal) (is : List Item) {s t : S} {r : Option Refusal} where
  pub printed_then : None ≡ f → Printed sink is s r t → PrintedUnless sink f is s r t
  printed_then e p = subst (λ x. PrintedUnless sink x is s r t) e p

  pub refused_then : (why : Refusal) → Some why ≡ f → r ≡ Some why → t ≡ s → PrintedUnless sink f is s r t
  refused_then why e a b = subst (λ x. PrintedUnless sink x is s r t) e (record { told = a; still = b })
