-- Calls on a sink, one after the other: what was printed whole can be followed, and what stopped stays stopped.
-- Assumes nothing.
use Rattle.std.proofs.Common.{◌≡◌, ℕ, ◌+◌, ◌-◌, ◌<◌, ◌≤◌, Bool, true, false, cond, ltb, List, [], ◌∷◌, ◌++◌, length, take, IsErrAnd, Some, None, Ok, Err, Option, Result, sym, refl, ap, ◌∙◌, subst, ap₂, append_assoc, append-nil, arith, length-append, take_all, ltb-false, ltb-true, le-ltb, lt-ltb}
use lib.Seq.{take-append-add}
use Rattle.armv7.specs.declared.fault.Fault.{Fault}
use Rattle.armv7.specs.Faults.{Refusal, refusal, refused_with, no_operand}
use Rattle.sink.specs.declared.sink.Edge.{Edge}
use Rattle.sink.specs.declared.sink.Mark.{Mark}
use Rattle.sink.specs.declared.sink.Span.{Span}
use Rattle.sink.specs.Items.{Item, edge, text_items, bytes, marks_from, fitting}
use Rattle.sink.specs.Meaning.{Meaning, SinkOf, room, Appends, Marks}
use Rattle.sink.specs.Outcome.{outcome, full_below}
use Rattle.sink.specs.Printed.{taken, handed, Printed, Prints}
use Rattle.sink.proofs.Lents.{one_more}
use Rattle.sink.proofs.Rows.{bytes_append, length_bytes, marks_append, bytes_text, marks_text, fitting_text, fitting_whole, fitting_cut, fitting_all, take_twice}

-- a sink's meaning at another text and other marks
holding : Meaning → List ℕ → List Mark → Meaning
holding m t ms = record { text = t; limit = m.limit; marks = ms; mark_limit = m.mark_limit }

pub taken_both : (a b : List Item) (m : Meaning) → taken (a ++ b) m ≡ taken b (taken a m)
unfolding holding
taken_both a b m =
    let from = length m.text in
    let along : marks_from (from + length (bytes a)) b ≡ marks_from (length (m.text ++ bytes a)) b = ap (λ n. marks_from n b) (sym (length-append m.text (bytes a))) in
    ap₂ (holding m) (ap (λ r. m.text ++ r) (bytes_append a b) ∙ sym (append_assoc m.text (bytes a) (bytes b)))
    (ap (λ r. take m.mark_limit (m.marks ++ r)) (marks_append from a b ∙ ap (λ r. marks_from from a ++ r) along)
    ∙ ap (take m.mark_limit) (sym (append_assoc m.marks (marks_from from a) _))
    ∙ sym (take_twice m.mark_limit (m.marks ++ marks_from from a) _))

pub handed_whole : (a : List Item) (m : Meaning) → length (bytes a) ≤ room m → handed a m ≡ taken a m
handed_whole a m h = ap (λ is. taken is m) (fitting_all (room m) a h)

pub room_taken : (a : List Item) (m : Meaning) → room (taken a m) ≡ room m - length (bytes a)
room_taken a m = omega (arith, length-append m.text (bytes a))

pub handed_both : (a b : List Item) (m : Meaning) → length (bytes a) ≤ room m → handed (a ++ b) m ≡ handed b (handed a m)
handed_both a b m h =
    ap (λ is. taken is m) (fitting_whole (room m) a b h) ∙ taken_both a _ m ∙ ap (λ n. taken (fitting n b) (taken a m)) (sym (room_taken a m)) ∙ ap (handed b) (sym (handed_whole a m h))

handed_cut : (a b : List Item) (m : Meaning) → room m < length (bytes a) → handed (a ++ b) m ≡ handed a m
handed_cut a b m h = ap (λ is. taken is m) (fitting_cut (room m) a b h)

pub full_fits : (n k : ℕ) → None ≡ full_below n k → k ≤ n
full_fits n k e = by (ltb n k) (ltb-false n k) e
  where
    by : (t : Bool) → (t ≡ false → k ≤ n) → None ≡ cond t (Some (refused_with 9 no_operand)) None → k ≤ n
    by true f e = let z : ◌≡◌ {A = ℕ} 0 1 = cc in omega arith
    by false f e = f refl

full_stops : (n k : ℕ) (f : Refusal) → Some f ≡ full_below n k → n < k
full_stops n k f e = by (ltb n k) (ltb-true n k) e
  where
    by : (t : Bool) → (t ≡ true → n < k) → Some f ≡ cond t (Some (refused_with 9 no_operand)) None → n < k
    by true g e = g refl
    by false g e = let z : ◌≡◌ {A = ℕ} 0 1 = cc in omega arith

full_below_less : (n k l : ℕ) → k ≤ n → full_below (n - k) l ≡ full_below n (k + l)
full_below_less n k l h = ap (λ t. cond t (Some (refused_with 9 no_operand)) None) (by (ltb (n - k) l) refl)
  where
    by : (t : Bool) → ltb (n - k) l ≡ t → ltb (n - k) l ≡ ltb n (k + l)
    by true e = e ∙ sym (lt-ltb n (k + l) (omega (arith, ltb-true (n - k) l e)))
    by false e = e ∙ sym (le-ltb n (k + l) (omega (arith, ltb-false (n - k) l e)))

full_below_more : (n k l : ℕ) → n < k → full_below n k ≡ full_below n (k + l)
full_below_more n k l h = ap (λ t. cond t (Some (refused_with 9 no_operand)) None) (lt-ltb n k h ∙ sym (lt-ltb n (k + l) (omega arith)))

last_mark : (ms : List Mark) (x : Mark) (limit : ℕ) → length ms ≤ limit → cond (ltb (length ms) limit) (ms ++ x ∷ []) ms ≡ take limit (ms ++ x ∷ [])
last_mark ms x limit h =
    let whole : length ms + (limit - length ms) ≡ limit = omega arith in
    sym (one_more ms x limit h) ∙ sym (take-append-add ms (x ∷ []) (limit - length ms)) ∙ ap (λ n. take n (ms ++ x ∷ [])) whole

pub broke : {A : Type 0} (r : Result A Fault) (d : Fault) → IsErrAnd r (λ y. y ≡ d) → outcome r ≡ Some (refusal d)
broke (Ok x) d e = absurd e
broke (Err y) d e = ap (λ f. Some (refusal f)) e

module _ {S : Type 0} (sink : SinkOf S) where
  -- what was printed whole can be followed
  pub both : (a b : List Item) {s t u : S} {r : Option Refusal} → Printed sink a s None t → Printed sink b t r u → Printed sink (a ++ b) s r u
  both a b {s} {t} {u} {r} p q =
      let m = sink.meaning s in
      let fits = full_fits (room m) (length (bytes a)) p.told in
      let left : room (sink.meaning t) ≡ room m - length (bytes a) = ap room (p.held ∙ handed_whole a m fits) ∙ room_taken a m in
      record {
        held = q.held ∙ ap (handed b) p.held ∙ sym (handed_both a b m fits);
        told = q.told ∙ ap (λ n. full_below n (length (bytes b))) left ∙ full_below_less (room m) (length (bytes a)) (length (bytes b)) fits ∙ ap (full_below (room m)) (sym (length_bytes a b));
        rest = subst (λ is. sink.kept is s u) (sym (fitting_whole (room m) a b fits))
            (sink.laws.adds_up a _ s t u (subst (λ is. sink.kept is s t) (fitting_all (room m) a fits) p.rest) (subst (λ n. sink.kept (fitting n b) t u) left q.rest));
      }

  -- what stopped stays stopped
  pub halt : (a b : List Item) {s t : S} {f : Refusal} → Printed sink a s (Some f) t → Printed sink (a ++ b) s (Some f) t
  halt a b {s} {t} {f} p =
      let m = sink.meaning s in
      let short = full_stops (room m) (length (bytes a)) f p.told in
      record {
        held = p.held ∙ sym (handed_cut a b m short);
        told = p.told ∙ full_below_more (room m) (length (bytes a)) (length (bytes b)) short ∙ ap (full_below (room m)) (sym (length_bytes a b));
        rest = subst (λ is. sink.kept is s t) (sym (fitting_cut (room m) a b short)) p.rest;
      }

  -- a call that hands over nothing
  pub nothing : (s : S) → Printed sink [] s None s
  unfolding holding
  nothing s =
      let m = sink.meaning s in
      record {
        held = sym (ap₂ (holding m) (append-nil m.text) (ap (take m.mark_limit) (append-nil m.marks) ∙ take_all _ _ (sink.laws.sound s).marks_within));
        told = sym (ap (λ t. cond t (Some (refused_with 9 no_operand)) None) (le-ltb (room m) 0 (omega arith)));
        rest = sink.laws.stays s;
      }

  -- what a write promises
  pub wrote : (p : List ℕ) {s t : S} {r : Result (Unit {0}) Fault} → Appends sink p s r t → Prints sink (text_items p) s r t
  unfolding holding
  wrote p {s} {t} w =
      let m = sink.meaning s in
      let row = take (room m) p in
      record {
        held = w.held
            ∙ ap₂ (holding m) (ap (λ x. m.text ++ x) (sym (bytes_text row)))
            (sym (ap (λ x. take m.mark_limit (m.marks ++ x)) (marks_text (length m.text) row) ∙ ap (take m.mark_limit) (append-nil m.marks) ∙ take_all _ _ (sink.laws.sound s).marks_within))
            ∙ ap (λ is. taken is m) (sym (fitting_text (room m) p));
        told = w.told ∙ ap (λ l. full_below (room m) (length l)) (sym (bytes_text p));
        rest = subst (λ is. sink.kept is s t) (sym (fitting_text (room m) p)) w.rest;
      }

  -- what an edge promises
  pub edged : (e : Edge) (k : Span) {s t : S} → Marks sink e k s t → Printed sink (edge e k ∷ []) s None t
  unfolding holding
  edged e k {s} {t} w =
      let m = sink.meaning s in
      record {
        held = w.held ∙ ap₂ (holding m) (sym (append-nil m.text)) (last_mark m.marks _ m.mark_limit (sink.laws.sound s).marks_within);
        told = sym (ap (λ t. cond t (Some (refused_with 9 no_operand)) None) (le-ltb (room m) 0 (omega arith)));
        rest = w.rest;
      }

  -- a call whose refusal was handed on
  pub stop : (a b : List Item) {A : Type 0} {s t : S} (r : Result A Fault) (d : Fault) → Printed sink a s (Some (refusal d)) t → IsErrAnd r (λ y. y ≡ d) → Printed sink (a ++ b) s (outcome r) t
  stop a b {s = s} {t} r d p e = subst (λ o. Printed sink (a ++ b) s o t) (sym (broke r d e)) (halt a b p)
