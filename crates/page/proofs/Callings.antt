-- A row that was printed and answered for is one step of a page. Assumes nothing.
use Rattle.std.proofs.Common.{◌≡◌, ℕ, suc, ◌≤◌, cond, List, [], ◌∷◌, length, Some, None, Option, Result, sym, refl, ap, ◌∙◌, subst, ap₂, arith, length-append, le-ltb}
use Rattle.armv7.specs.declared.fault.Fault.{Fault}
use Rattle.armv7.specs.Faults.{Refusal, refused_with, no_operand}
use Rattle.sink.specs.Items.{Item, byte, bytes}
use Rattle.sink.specs.Meaning.{room, SinkOf}
use Rattle.sink.specs.Outcome.{outcome}
use Rattle.sink.proofs.Chain.{handed_whole}
use Rattle.sink.proofs.Rows.{bytes_append, fitting_all}
use Rattle.visitor.specs.Visits.{PrintsUnless}
use Rattle.armv7.specs.declared.call.Call.{Call}
use Rattle.page.specs.declared.entry.PageFault.{PageFault}
use Rattle.page.specs.declared.page.Page.{Page}
use Rattle.page.specs.Answers.{told, told_by}
use Rattle.page.specs.Rows.{row_refused, row, PrintsRow}
use Rattle.page.specs.Spellings.{Spelling, call_refused, call_line}
use Rattle.page.specs.Steps.{counted, counted_unless, Changed, Step}
use Rattle.page.proofs.Fits.{row_fits}

row_length : (is : List Item) → length (bytes (row is)) ≡ suc (length (bytes is))
row_length is = ap length (bytes_append is (byte 10 ∷ [])) ∙ omega (arith, length-append (bytes is) (10 ∷ []))

module _ {S : Type 0} (sink : SinkOf S) (s : Spelling) (c : Call) (p q : Page S) (mid : S) (w : Result (Unit {0}) Fault) (r : Result ℕ PageFault) where
  pub step_of : PrintsRow sink (call_refused s c) (call_line s c) p.sink w mid → told r ≡ told_by (outcome w) p.count (counted p.count) → q.sink ≡ mid → q.count ≡ counted_unless (outcome w) p.count → Step sink s c p r q
  step_of h t e n = by (row_refused (call_refused s c) (room (sink.meaning p.sink)) (length (bytes (call_line s c)))) refl h
    where
      by : (f : Option Refusal) → row_refused (call_refused s c) (room (sink.meaning p.sink)) (length (bytes (call_line s c))) ≡ f → PrintsUnless sink f (row (call_line s c)) p.sink w mid → Step sink s c p r q
      by None f g =
          let fits = (row_fits (call_refused s c) (room (sink.meaning p.sink)) (length (bytes (call_line s c))) f).1 in
          let short : length (bytes (row (call_line s c))) ≤ room (sink.meaning p.sink) = omega (arith, row_length (call_line s c)) in
          let quiet : outcome w ≡ None = g.told ∙ ap (λ b. cond b (Some (refused_with 9 no_operand)) None) (le-ltb (room (sink.meaning p.sink)) (length (bytes (row (call_line s c)))) short) in
          let answer : told r ≡ told_by None p.count (counted p.count) = t ∙ ap (λ x. told_by x p.count (counted p.count)) quiet in
          record {
            answered = answer ∙ ap (λ x. told_by x p.count (counted p.count)) (sym f);
            changed = subst (λ x. Changed sink (call_line s c) x p q) (sym answer) (record {
              held = ap sink.meaning e ∙ g.held ∙ handed_whole (row (call_line s c)) (sink.meaning p.sink) short;
              rest = subst (sink.kept (row (call_line s c)) p.sink) (sym e) (subst (λ is. sink.kept is p.sink mid) (fitting_all (room (sink.meaning p.sink)) (row (call_line s c)) short) g.rest);
              count_is = n ∙ ap (λ x. counted_unless x p.count) quiet;
            });
          }
      by (Some why) f g =
          let answer : told r ≡ told_by (Some why) p.count (counted p.count) = t ∙ ap (λ x. told_by x p.count (counted p.count)) g.told in
          record {
            answered = answer ∙ ap (λ x. told_by x p.count (counted p.count)) (sym f);
            changed = subst (λ x. Changed sink (call_line s c) x p q) (sym answer) (ap₂ (λ x k. record { sink = x; count = k }) (e ∙ g.still) (n ∙ ap (λ x. counted_unless x p.count) g.told));
          }
