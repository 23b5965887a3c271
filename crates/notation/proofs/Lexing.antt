-- How a line's tokens come off its front. Assumes nothing.
use Rattle.std.proofs.Common.{◌≡◌, ℕ, suc, ◌+◌, ◌-◌, ◌<◌, ◌≤◌, Bool, true, false, cond, List, [], ◌∷◌, length, get_or, take, drop, sym, refl, ap, ◌∙◌, arith, get_or-drop}
use Rattle.std.specs.List.{prefix_len}
use Rattle.std.proofs.lemmas.List.{length-drop, drop-drop, take_all}
use Rattle.std.proofs.lemmas.List.Sums.{prefix_len-le-length}
use Rattle.std.proofs.lemmas.Bool.{cond-true, cond-false}
use Rattle.std.proofs.lemmas.Bool.Decides.{nat_tests}
use Rattle.notation.specs.Tokens.{blank, wordy, put, tokens, first, others, first_len}

one_more : (n : ℕ) → 1 + n ≡ suc n
one_more n = omega arith

-- blanks in front are passed over
blanks_passed : (bs : List ℕ) → tokens (drop (prefix_len blank bs) bs) ≡ tokens bs
blanks_passed [] = refl
blanks_passed (b ∷ bs) = by (blank b) refl (blanks_passed bs)
  where
    by : (t : Bool) → blank b ≡ t → tokens (drop (prefix_len blank bs) bs) ≡ tokens bs → tokens (drop (cond t (1 + prefix_len blank bs) 0) (b ∷ bs)) ≡ tokens (b ∷ bs)
    by true e later = ap (λ n. tokens (drop n (b ∷ bs))) (one_more (prefix_len blank bs)) ∙ later ∙ sym (cond-true _ _ _ e)
    by false e later = refl

-- and no blank stands after them
blanks_end : (bs : List ℕ) → prefix_len blank bs < length bs → blank (get_or bs (prefix_len blank bs) 0) ≡ false
blanks_end [] h = absurd (omega arith)
blanks_end (b ∷ bs) h = by (blank b) refl h (blanks_end bs)
  where
    by : (t : Bool) → blank b ≡ t → cond t (1 + prefix_len blank bs) 0 < length (b ∷ bs) → (prefix_len blank bs < length bs → blank (get_or bs (prefix_len blank bs) 0) ≡ false) → blank (get_or (b ∷ bs) (cond t (1 + prefix_len blank bs) 0) 0) ≡ false
    by true e h later = ap (λ n. blank (get_or (b ∷ bs) n 0)) (one_more (prefix_len blank bs)) ∙ later (omega arith)
    by false e h later = e

not_blank : (b : ℕ) → wordy b ≡ true → blank b ≡ false
not_blank b h = grind (arith, nat_tests)

-- a word is the first token
word_first : (b : ℕ) (bs : List ℕ) → wordy b ≡ true → tokens (b ∷ bs) ≡ (b ∷ take (prefix_len wordy bs) bs) ∷ tokens (drop (prefix_len wordy bs) bs)
word_first b [] h = cond-false _ _ _ (not_blank b h) ∙ cond-true _ _ _ h
word_first b (c ∷ cs) h = cond-false _ _ _ (not_blank b h) ∙ cond-true _ _ _ h ∙ by (wordy c) refl (word_first c cs)
  where
    by : (t : Bool) → wordy c ≡ t → (wordy c ≡ true → tokens (c ∷ cs) ≡ (c ∷ take (prefix_len wordy cs) cs) ∷ tokens (drop (prefix_len wordy cs) cs)) → put b t (tokens (c ∷ cs)) ≡ (b ∷ take (cond t (1 + prefix_len wordy cs) 0) (c ∷ cs)) ∷ tokens (drop (cond t (1 + prefix_len wordy cs) 0) (c ∷ cs))
    by true e later = ap (put b true) (later e) ∙ ap (λ n. (b ∷ take n (c ∷ cs)) ∷ tokens (drop n (c ∷ cs))) (sym (one_more (prefix_len wordy cs)))
    by false e later = refl

-- so is any other byte that is not blank
mark_first : (b : ℕ) (bs : List ℕ) → blank b ≡ false → wordy b ≡ false → tokens (b ∷ bs) ≡ (b ∷ []) ∷ tokens bs
mark_first b bs h k = cond-false _ _ _ h ∙ cond-false _ _ _ k

record First (bs : List ℕ) : Type 0 where
  pub within : first_len bs ≤ length bs
  pub value : take (first_len bs) bs ≡ first (tokens bs)
  pub after : tokens (drop (first_len bs) bs) ≡ others (tokens bs)

first_token : (bs : List ℕ) → (0 < length bs → blank (get_or bs 0 0) ≡ false) → First bs
first_token [] h = record { within = omega arith; value = refl; after = refl }
first_token (b ∷ bs) h = by (wordy b) refl
  where
    by : (t : Bool) → wordy b ≡ t → First (b ∷ bs)
    by true e =
        let is = word_first b bs e in
        let len : first_len (b ∷ bs) ≡ suc (prefix_len wordy bs) = cond-true _ _ _ e ∙ cond-true _ _ _ e ∙ one_more (prefix_len wordy bs) in
        let small = prefix_len-le-length wordy bs in
        record {
          within = omega arith;
          value = ap (λ n. take n (b ∷ bs)) len ∙ sym (ap first is);
          after = ap (λ n. tokens (drop n (b ∷ bs))) len ∙ sym (ap others is);
        }
    by false e =
        let is = mark_first b bs (h (omega arith)) e in
        let len : first_len (b ∷ bs) ≡ 1 = cond-false _ _ _ e in
        record {
          within = omega arith;
          value = ap (λ n. take n (b ∷ bs)) len ∙ sym (ap first is);
          after = ap (λ n. tokens (drop n (b ∷ bs))) len ∙ sym (ap others is);
        }

-- the next token of a line: after k blanks, of length n
pub record Next (line : List ℕ) (at k n : ℕ) : Type 0 where
  pub within : (at + k) + n ≤ length line
  pub opens : at + k < length line → blank (get_or line (at + k) 0) ≡ false
  pub left : tokens (drop (at + k) line) ≡ tokens (drop at line)
  pub value : take n (drop (at + k) line) ≡ first (tokens (drop at line))
  pub after : tokens (drop ((at + k) + n) line) ≡ others (tokens (drop at line))

-- what is read is the rest of the line
rest_is : (line : List ℕ) (at : ℕ) → take (length line - at) (drop at line) ≡ drop at line
rest_is line at = take_all _ _ (omega (arith, length-drop at line))

pub next_token : (line : List ℕ) (at k n : ℕ) → at ≤ length line → k ≡ prefix_len blank (take (length line - at) (drop at line)) → n ≡ first_len (take (length line - (at + k)) (drop (at + k) line)) → Next line at k n
next_token line at k n h is ends =
    let ahead = drop at line in
    let passed : k ≡ prefix_len blank ahead = is ∙ ap (prefix_len blank) (rest_is line at) in
    let short = prefix_len-le-length blank ahead in
    let starts : at + k ≤ length line = omega (arith, length-drop at line) in
    let rest : drop k ahead ≡ drop (at + k) line = drop-drop k at line in
    let opens : at + k < length line → blank (get_or line (at + k) 0) ≡ false =
    λ i. ap blank (sym (get_or-drop at line k 0)) ∙ ap (λ j. blank (get_or ahead j 0)) passed ∙ blanks_end ahead (omega (arith, length-drop at line)) in
    let left : tokens (drop (at + k) line) ≡ tokens ahead = ap tokens (sym rest) ∙ ap (λ j. tokens (drop j ahead)) passed ∙ blanks_passed ahead in
    let one = first_token (drop (at + k) line) (λ i. ap blank (get_or-drop (at + k) line 0 0 ∙ ap (λ j. get_or line j 0) (omega arith)) ∙ opens (omega (arith, length-drop (at + k) line))) in
    let len : n ≡ first_len (drop (at + k) line) = ends ∙ ap first_len (rest_is line (at + k)) in
    record {
      within = omega (arith, one.within, length-drop (at + k) line);
      opens = opens;
      left = left;
      value = ap (λ j. take j (drop (at + k) line)) len ∙ one.value ∙ ap first left;
      after = ap tokens (sym (drop-drop n (at + k) line)) ∙ ap (λ j. tokens (drop j (drop (at + k) line))) len ∙ one.after ∙ ap others left;
    }
