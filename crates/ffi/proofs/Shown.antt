-- What a sink that was empty holds once an instruction was printed to it, and what its memory then is. Assumes nothing.
use Rattle.std.proofs.Common.{◌≡◌, ℕ, ◌-◌, ◌^◌, ◌<◌, ◌≤◌, min, List, [], ◌++◌, length, take, drop, Some, None, Option, sym, ap, ◌∙◌, subst, ap₂, ⊎_elim, arith, take-append-drop, length-take, take_all}
use Rattle.std.proofs.str.Laws.{order}
use Rattle.std.proofs.lemmas.List.{drop_all}
use Rattle.armv7.specs.Faults.{Refusal}
use Rattle.sink.specs.Items.{Item, bytes, marks_from, fitting}
use Rattle.sink.specs.Lent.{lent, Filled}
use Rattle.sink.specs.Meaning.{with_room, room, SinkOf}
use Rattle.sink.specs.Outcome.{full_below}
use Rattle.sink.proofs.Lents.{all_lent}
use Rattle.visitor.specs.Visits.{PrintedUnless}
use Rattle.ffi.specs.Lines.{items_unless, refusal_unless, over}

-- a sink that was empty has those of the items that go into n bytes, and none where there is a refusal
pub record Shown {S : Type 0} (sink : SinkOf S) (f : Option Refusal) (n m : ℕ) (is : List Item) (before : S) (answer : Option Refusal) (after : S) : Type 0 where
  pub told : answer ≡ refusal_unless f n is
  pub text : (sink.meaning after).text ≡ bytes (items_unless f n is)
  pub marks : (sink.meaning after).marks ≡ take m (marks_from 0 (items_unless f n is))
  pub rest : sink.kept (items_unless f n is) before after

module _ {S : Type 0} (sink : SinkOf S) (is : List Item) (n m : ℕ) (s t : S) (o : Option Refusal) where
  pub shows : (f : Option Refusal) → sink.meaning s ≡ with_room n m → PrintedUnless sink f is s o t → Shown sink f n m is s o t
  shows None empty p =
      let all : n ≡ n - 0 = omega arith in
      record {
        told = p.told
            ∙ ap (λ k. full_below (room k) (length (bytes is))) empty
            ∙ ap (λ k. full_below k (length (bytes is))) (sym all);
        text = ap (λ k. k.text) p.held
            ∙ ap (λ k. k.text ++ bytes (fitting (room k) is)) empty
            ∙ ap (λ k. bytes (fitting k is)) (sym all);
        marks = ap (λ k. k.marks) p.held
            ∙ ap (λ k. take k.mark_limit (k.marks ++ marks_from (length k.text) (fitting (room k) is))) empty
            ∙ ap (λ k. take m (marks_from 0 (fitting k is))) (sym all);
        rest = subst (λ us. sink.kept us s t) (ap (λ k. fitting (room k) is) empty ∙ ap (λ k. fitting k is) (sym all)) p.rest;
      }
  shows (Some why) empty p = record {
    told = p.told;
    text = ap (λ u. (sink.meaning u).text) p.still ∙ ap (λ k. k.text) empty;
    marks = ap (λ u. (sink.meaning u).marks) p.still ∙ ap (λ k. k.marks) empty ∙ sym (take_all m [] (omega arith));
    rest = subst (sink.kept [] s) (sym p.still) (sink.laws.stays s);
  }

-- memory that was filled holds what is in use of it, and past that what it held
pub filled_over : {A : Type 0} (xs ys front : List A) (n k : ℕ) → Filled xs n ys k → length (lent xs) ≡ length xs → take k (lent ys) ≡ front → ys ≡ over front xs
filled_over xs ys front n k f bits e = sym (take-append-drop k ys) ∙ ap₂ ◌++◌ text (f.past ∙ ⊎_elim outside inside (order (length xs) k))
  where
    short : length ys < 2 ^ 64
    short = omega (arith, length-take (2 ^ 64 - 1) xs, bits, f.size)

    text : take k ys ≡ front
    text = ap (take k) (sym (all_lent ys short)) ∙ e

    size : length front ≡ min k (length ys)
    size = ap length (sym text) ∙ length-take k ys

    outside : length xs < k → drop k xs ≡ drop (length front) xs
    outside h = drop_all k xs (omega arith) ∙ sym (drop_all (length front) xs (omega (arith, size, f.size)))

    inside : k ≤ length xs → drop k xs ≡ drop (length front) xs
    inside h = let same : k ≡ length front = omega (arith, size, f.size) in ap (λ j. drop j xs) same
