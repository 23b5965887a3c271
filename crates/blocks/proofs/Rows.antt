-- Bounded rows are put together from bounded texts, and spans around them. Assumes nothing.
use Rattle.std.proofs.Common.{◌≡◌, ℕ, suc, ◌+◌, ◌-◌, ◌≤◌, Bool, true, cond, not, ◌&&◌, eqb, leb, List, [], ◌∷◌, ◌++◌, length, sym, refl, ap, ◌∙◌, subst, append_assoc, arith, length-append}
use Rattle.std.specs.List.{list_all}
use Rattle.std.proofs.ByRecursion.{All-append}
use Rattle.std.proofs.lemmas.Bool.{and_parts, cond_both, eqb-false, leb-true, not-true}
use Rattle.sink.specs.declared.sink.Edge.TheVariants.{Start, End}
use Rattle.sink.specs.declared.sink.Span.{Span}
use Rattle.sink.specs.Items.{Item, byte, edge, text_items, bytes, marks_from}
use Rattle.sink.proofs.Rows.{bytes_append, length_bytes, marks_append, bytes_text, marks_text}
use Rattle.blocks.specs.Bounds.{Nested, done, byte_then, span_then, OneLine, Bounded}

nested_append : {a b : List Item} → Nested a → Nested b → Nested (a ++ b)
nested_append done k = k
nested_append (byte_then x h) k = byte_then x (nested_append h k)
nested_append {b = b} (span_then s {inside = inside} {rest = rest} h g) k =
    subst (λ is. Nested (edge Start s ∷ is)) (sym (append_assoc inside (edge End s ∷ rest) b)) (span_then s h (nested_append g k))

nested_text : (t : List ℕ) → Nested (text_items t)
nested_text [] = done
nested_text (x ∷ t) = byte_then x (nested_text t)

-- where a row begins does not change how many marks it has
same_count : (n k : ℕ) (is : List Item) → length (marks_from n is) ≡ length (marks_from k is)
same_count n k [] = refl
same_count n k (byte b ∷ is) = same_count (suc n) (suc k) is
same_count n k (edge e s ∷ is) = ap suc (same_count n k is)

count_append : (a b : List Item) → length (marks_from 0 (a ++ b)) ≡ length (marks_from 0 a) + length (marks_from 0 b)
count_append a b =
    ap length (marks_append 0 a b)
    ∙ length-append (marks_from 0 a) (marks_from (0 + length (bytes a)) b)
    ∙ ap (λ n. length (marks_from 0 a) + n) (same_count (0 + length (bytes a)) 0 b)

-- a text of at most n bytes, none of which ends a line
pub record Text (n : ℕ) (t : List ℕ) : Type 0 where
  pub size : length t ≤ n
  pub one_line : OneLine t

abbrev pub no_break : List ℕ → Bool
no_break t = list_all (λ b. not (eqb b 10)) t

unbroken : (t : List ℕ) → no_break t ≡ true → OneLine t
unbroken [] e = tt
unbroken (b ∷ t) e = let h = and_parts (not (eqb b 10)) (no_break t) e in (eqb-false b 10 (not-true (eqb b 10) h.0), unbroken t h.1)

pub row_append : {n m k l : ℕ} {a b : List Item} → Bounded n m a → Bounded k l b → Bounded (n + k) (m + l) (a ++ b)
row_append {a = a} {b} f g = record {
  size = omega (arith, f.size, g.size, length_bytes a b);
  marks = omega (arith, f.marks, g.marks, count_append a b);
  one_line = subst OneLine (sym (bytes_append a b)) (All-append _ (bytes a) (bytes b) f.one_line g.one_line);
  nested = nested_append f.nested g.nested;
}

pub row_text : {n : ℕ} {t : List ℕ} → Text n t → Bounded n 0 (text_items t)
row_text {t = t} h = record {
  size = omega (arith, h.size, ap length (bytes_text t));
  marks = omega (arith, ap length (marks_text 0 t));
  one_line = subst OneLine (sym (bytes_text t)) h.one_line;
  nested = nested_text t;
}

-- a span, and what stands behind it
pub row_span : {n m k l : ℕ} {is rest : List Item} (s : Span) → Bounded n m is → Bounded k l rest → Bounded (n + k) (m + l + 2) (edge Start s ∷ (is ++ edge End s ∷ rest))
row_span {is = is} {rest} s h g = record {
  size = omega (arith, h.size, g.size, length_bytes is (edge End s ∷ rest));
  marks = omega (arith, h.marks, g.marks, count_append is (edge End s ∷ rest));
  one_line = subst OneLine (sym (bytes_append is (edge End s ∷ rest))) (All-append _ (bytes is) (bytes rest) h.one_line g.one_line);
  nested = span_then s h.nested g.nested;
}

pub row_within : {n m k l : ℕ} {is : List Item} → n ≤ k → m ≤ l → Bounded n m is → Bounded k l is
row_within p q h = record { size = omega (arith, h.size); marks = omega (arith, h.marks); one_line = h.one_line; nested = h.nested }

pub text_append : {n k : ℕ} {a b : List ℕ} → Text n a → Text k b → Text (n + k) (a ++ b)
text_append {a = a} {b} f g = record { size = omega (arith, f.size, g.size, length-append a b); one_line = All-append _ a b f.one_line g.one_line }

pub text_within : {n k : ℕ} {t : List ℕ} → n ≤ k → Text n t → Text k t
text_within p h = record { size = omega (arith, h.size); one_line = h.one_line }

-- a text that is written out
pub text : (n : ℕ) (t : List ℕ) → (leb (length t) n && no_break t) ≡ true → Text n t
text n t e = let h = and_parts (leb (length t) n) (no_break t) e in record { size = leb-true (length t) n h.0; one_line = unbroken t h.1 }

pub text_if : {n : ℕ} {t : List ℕ} (b : Bool) → Text n t → Text n (cond b t [])
text_if b h = cond_both b _ _ (Text _) (λ _. h) (λ _. record { size = omega arith; one_line = tt })

pub text_either : {n : ℕ} {t u : List ℕ} (b : Bool) → Text n t → Text n u → Text n (cond b t u)
text_either b h k = cond_both b _ _ (Text _) (λ _. h) (λ _. k)

nested_behind : (b : ℕ) (is : List Item) → Nested (byte b ∷ is) → Nested is
nested_behind b is (byte_then c h) = h

-- a row without its first byte
pub row_behind : {n m b : ℕ} {is : List Item} → Bounded n m (byte b ∷ is) → Bounded (n - 1) m is
row_behind {b = b} {is} h = record {
  size = omega (arith, h.size);
  marks = omega (arith, h.marks, same_count 1 0 is);
  one_line = h.one_line.1;
  nested = nested_behind b is h.nested;
}
