-- What a sink that was empty holds once a line was printed to it that is no longer than its room, and what filled memory then is.
-- Assumes nothing.
use Rattle.std.proofs.Common.{◌≡◌, ℕ, ◌-◌, ◌^◌, ◌<◌, ◌≤◌, cond, List, [], ◌++◌, length, take, drop, Some, None, Option, sym, refl, ap, ◌∙◌, subst, ap₂, arith, le-ltb, take-append-drop, length-take-le}
use Rattle.armv7.specs.Faults.{Refusal, refused_with, no_operand}
use Rattle.sink.specs.Items.{Item, bytes, fitting}
use Rattle.sink.specs.Lent.{lent, Filled}
use Rattle.sink.specs.Meaning.{SinkOf, with_room, room}
use Rattle.sink.specs.Outcome.{full_below}
use Rattle.sink.proofs.Lents.{front_taken}
use Rattle.sink.proofs.Rows.{fitting_all}
use Rattle.visitor.specs.Visits.{PrintedUnless}
use Rattle.buffer.specs.Held.{formatted}

-- the items of a line, and none of one that is refused
abbrev pub line_unless : Option Refusal → List Item → List Item
line_unless None is = is
line_unless (Some why) is = []

-- the answer is the refusal, if there is one, and the text is the line, if there is none
pub record Held {S : Type 0} (sink : SinkOf S) (f : Option Refusal) (is : List Item) (before : S) (answer : Option Refusal) (after : S) : Type 0 where
  pub told : answer ≡ f
  pub text : (sink.meaning after).text ≡ formatted f is
  pub rest : sink.kept (line_unless f is) before after

module _ {S : Type 0} (sink : SinkOf S) (is : List Item) (n m : ℕ) (s t : S) (o : Option Refusal) where
  pub held : (f : Option Refusal) → sink.meaning s ≡ with_room n m → (f ≡ None → length (bytes is) ≤ n) → PrintedUnless sink f is s o t → Held sink f is s o t
  held None empty short p =
      let all : n ≡ n - 0 = omega arith in
      let fits = short refl in
      let whole = ap (λ k. fitting (room k) is) empty ∙ ap (λ k. fitting k is) (sym all) ∙ fitting_all n is fits in
      record {
        told = p.told
            ∙ ap (λ k. full_below (room k) (length (bytes is))) empty
            ∙ ap (λ k. full_below k (length (bytes is))) (sym all)
            ∙ ap (λ b. cond b (Some (refused_with 9 no_operand)) None) (le-ltb n (length (bytes is)) fits);
        text = ap (λ k. k.text) p.held
            ∙ ap (λ k. k.text ++ bytes (fitting (room k) is)) empty
            ∙ ap (λ k. bytes (fitting k is)) (sym all)
            ∙ ap bytes (fitting_all n is fits);
        rest = subst (λ row. sink.kept row s t) whole p.rest;
      }
  held (Some why) empty short p = record {
    told = p.told;
    text = ap (λ u. (sink.meaning u).text) p.still ∙ ap (λ k. k.text) empty;
    rest = subst (sink.kept [] s) (sym p.still) (sink.laws.stays s);
  }

-- memory that was filled is what is in use of it, and behind that what stood there before
pub filled_behind : (xs ys front : List ℕ) (n k : ℕ) → Filled xs n ys k → k ≤ length ys → length ys < 2 ^ 64 → take k (lent ys) ≡ front → ys ≡ front ++ drop (length front) xs
filled_behind xs ys front n k f within bits e = sym (take-append-drop k ys) ∙ ap₂ ◌++◌ used (f.past ∙ ap (λ j. drop j xs) (sym (length-take-le k ys within) ∙ ap length used))
  where
    used : take k ys ≡ front
    used = front_taken ys k bits ∙ e
