-- A row that is filled with the numbers of marks, and how many marks a line has. Assumes nothing.
use Rattle.std.proofs.Common.{◌≡◌, ℕ, zero, suc, ◌+◌, ◌<◌, ◌≤◌, min, List, [], ◌∷◌, ◌++◌, map, length, get_or, take, drop, set, Some, None, Option, sym, refl, ap, ◌∙◌, append_assoc, arith, length-append, length-take, length-take-le, drop-cons}
use lib.ListN.{length-map}
use lib.Seq.{set_at}
use Rattle.std.proofs.lemmas.List.{map_more}
use Rattle.armv7.specs.Faults.{Refusal}
use Rattle.sink.specs.declared.sink.Mark.{Mark}
use Rattle.sink.specs.Items.{Item, byte, edge, marks_from, fitting}
use Rattle.ffi.specs.Lines.{items_unless, over}
use Rattle.ffi.specs.Marks.{mark_code, numbers_in}

-- one element more, right behind those that replaced others
over_more : {A : Type 0} (xs ys : List A) (c d : A) → length ys < length xs → set (over ys xs) (length ys) c ≡ over (ys ++ c ∷ []) xs
over_more xs ys c d h =
    let rest = drop (suc (length ys)) xs in
    let next : suc (length ys) ≡ length (ys ++ c ∷ []) = omega (arith, length-append ys (c ∷ [])) in
    ap (λ r. set (ys ++ r) (length ys) c) (drop-cons xs (length ys) d h)
    ∙ set_at ys (get_or xs (length ys) d) rest c (length ys) refl
    ∙ sym (append_assoc ys (c ∷ []) rest)
    ∙ ap (λ j. (ys ++ c ∷ []) ++ drop j xs) next

-- one mark more
pub number_more : (i : ℕ) (row : List ℕ) (ms : List Mark) (d : Mark) → i < length ms → i < length row → set (over (map mark_code (take i ms)) row) i (mark_code (get_or ms i d)) ≡ over (map mark_code (take (i + 1) ms)) row
number_more i row ms d h k =
    let ys = map mark_code (take i ms) in
    let size : length ys ≡ i = length-map (take i ms) mark_code ∙ length-take-le i ms (omega arith) in
    ap (λ j. set (over ys row) j (mark_code (get_or ms i d))) (sym size)
    ∙ over_more row ys (mark_code (get_or ms i d)) 0 (omega (arith, size))
    ∙ ap (λ l. over l row) (sym (map_more mark_code ms i d h))

-- as many marks as there are places for
pub numbers_first : (n : ℕ) (ms : List Mark) → map mark_code (take (min (length ms) n) ms) ≡ numbers_in n ms
numbers_first n [] = let none : min 0 n ≡ zero = omega arith in ap (λ k. map mark_code (take k [])) none
numbers_first zero (m ∷ ms) = let none : min (length (m ∷ ms)) zero ≡ zero = omega arith in ap (λ k. map mark_code (take k (m ∷ ms))) none
numbers_first (suc n) (m ∷ ms) = ap (λ k. map mark_code (take k (m ∷ ms))) more ∙ ap (λ r. mark_code m ∷ r) (numbers_first n ms)
  where
    more : min (length (m ∷ ms)) (suc n) ≡ suc (min (length ms) n)
    more = omega arith

pub numbers_count : (n : ℕ) (ms : List Mark) → min (length ms) n ≡ length (numbers_in n ms)
numbers_count n ms = sym (ap length (sym (numbers_first n ms)) ∙ length-map (take (min (length ms) n) ms) mark_code ∙ length-take (min (length ms) n) ms ∙ whole)
  where
    whole : min (min (length ms) n) (length ms) ≡ min (length ms) n
    whole = omega arith

-- what fits of a row of items has no more marks
fitting_marks : (k n : ℕ) (is : List Item) → length (marks_from k (fitting n is)) ≤ length (marks_from k is)
fitting_marks k n [] = let none : 0 ≤ 0 = omega arith in none
fitting_marks k n (edge e s ∷ is) = let more : suc (length (marks_from k (fitting n is))) ≤ suc (length (marks_from k is)) = omega (arith, fitting_marks k n is) in more
fitting_marks k zero (byte b ∷ is) = let none : 0 ≤ length (marks_from (suc k) is) = omega arith in none
fitting_marks k (suc n) (byte b ∷ is) = fitting_marks (suc k) n is

pub marks_within : (f : Option Refusal) (m n : ℕ) (is : List Item) → (f ≡ None → length (marks_from 0 is) ≤ m) → length (marks_from 0 (items_unless f n is)) ≤ m
marks_within None m n is h = let less : length (marks_from 0 (fitting n is)) ≤ m = omega (arith, fitting_marks 0 n is, h refl) in less
marks_within (Some why) m n is h = let none : 0 ≤ m = omega arith in none
