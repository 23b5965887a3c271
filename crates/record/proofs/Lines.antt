-- A line is read as it is written. Assumes nothing.
use Rattle.std.proofs.Common.{◌≡◌, ℕ, ◌<◌, Bool, true, false, cond, ◌⊎◌, List, [], ◌∷◌, ◌++◌, length, Some, None, Ok, Err, codes, IfOk, Option, Result, sym, refl, ap, ◌∙◌, subst, inl, inr, ⊎_elim, append-nil, arith}
use Rattle.std.proofs.lemmas.Slice.Eq.{bytes_eq-Decides}
use Rattle.std.specs.Str.{bytes_eq}
use Rattle.armv7.specs.declared.instruction.Instruction.{Instruction}
use Rattle.misreading.specs.declared.given.Given.TheVariants.{End}
use Rattle.misreading.specs.declared.misread.Expected.TheVariants.{Call as a_call}
use Rattle.misreading.specs.declared.misread.Misread.{Misread}
use Rattle.notation.specs.Parsing.{Tokens, Table, then, taken, row, given, givens}
use Rattle.notation.specs.Tokens.{blank, wordy, opens_wordy, put, tokens, first, others}
use Rattle.notation.proofs.Faithful.{then_ok, taken_ok, ok_is, some_is, ok_pair, given_first, via_sound}
use Rattle.armv7.specs.declared.call.Call.{Call}
use Rattle.armv7.specs.declared.call.Call.TheVariants.{Print, Gap}
use Rattle.record.specs.declared.call.Start.{Start}
use Rattle.record.specs.declared.call.Start.TheVariants.{Nothing, Gap as GapStart, Print as PrintStart}
use Rattle.record.specs.Calls.{starts, whole, call_with, call, reading}
use Rattle.record.specs.Instructions.{instruction}
use Rattle.record.specs.Law.{PassedOver, Says, CanCall, Answers, Answered}
use Rattle.record.specs.Written.{written, CanBe}
use Rattle.record.proofs.Instructions.{instruction_sound, instruction_complete}

-- no token is empty
abbrev Full : Tokens → Type 0
Full [] = Unit {0}
Full (t ∷ ts) = (0 < length t) × Full ts

put_full : (b : ℕ) (t : Bool) (ts : Tokens) → Full ts → Full (put b t ts)
put_full b true [] h = (omega arith, tt)
put_full b true (t ∷ ts) h = (omega arith, h.1)
put_full b false ts h = (omega arith, h)

tokens_full : (bs : List ℕ) → Full (tokens bs)
tokens_full [] = tt
tokens_full (b ∷ bs) = by (blank b) (wordy b) (tokens_full bs)
  where
    by : (s w : Bool) → Full (tokens bs) → Full (cond s (tokens bs) (cond w (put b (opens_wordy bs) (tokens bs)) ((b ∷ []) ∷ tokens bs)))
    by true w h = h
    by false true h = put_full b (opens_wordy bs) (tokens bs) h
    by false false h = (omega arith, h)

full_end : (xs ys : Tokens) → Full (xs ++ ys) → Full ys
full_end [] ys h = h
full_end (x ∷ xs) ys h = full_end xs ys h.1

none_first : (ts : Tokens) → Full ts → first ts ≡ [] → ts ≡ []
none_first [] h e = refl
none_first (t ∷ ts) h e = let len = ap length e in absurd (omega (arith, h.0))

ended : (ts : Tokens) (u : Unit {0}) (rest : Tokens) → Full ts → givens (End ∷ []) ts ≡ Ok (u, rest) → ts ≡ []
ended ts u rest h e =
    let one = then_ok (given End ts) (λ x. Ok (tt, x.1)) (u, rest) e in
    none_first ts h (given_first End ts one.0.0 one.0.1 one.1.0).0

-- what holds of each row holds of the one that is found, and of its word
abbrev Rows : {X : Type 0} → (List ℕ → X → Type 0) → Table X → Type 0
Rows P [] = Unit {0}
Rows P (r ∷ rs) = P r.0 r.1 × Rows P rs

row_holds : {X : Type 0} (P : List ℕ → X → Type 0) (rs : Table X) → Rows P rs → (w : List ℕ) (x : X) → row rs w ≡ Some x → P w x
row_holds P [] h w x e = absurd (let z : ◌≡◌ {A = ℕ} 0 1 = cc in omega arith)
row_holds P (r ∷ rs) h w x e = one_row P r (row rs w) w x h.0 (row_holds P rs h.1 w x) (bytes_eq w r.0) refl e
  where
    one_row : {X : Type 0} (P : List ℕ → X → Type 0) (r : List ℕ × X) (o : Option X) (w : List ℕ) (x : X) → P r.0 r.1 → (o ≡ Some x → P w x) → (t : Bool) → bytes_eq w r.0 ≡ t → cond t (Some r.1) o ≡ Some x → P w x
    one_row P r o w x here other true s e = subst (λ v. P v x) (sym ((bytes_eq-Decides _ _).0 s)) (subst (P r.0) (some_is r.1 x e) here)
    one_row P r o w x here other false s e = other e

-- the word that a line begins with so
abbrev Begins : List ℕ → Start → Type 0
Begins w Nothing = (w ≡ []) ⊎ (w ≡ codes "#")
Begins w GapStart = w ≡ codes "gap"
Begins w PrintStart = w ≡ codes "Instruction"

begins : (w : List ℕ) (s : Start) → row starts w ≡ Some s → Begins w s
unfolding starts
begins w s e = row_holds Begins starts (inl refl, (inr refl, (refl, (refl, tt)))) w s e

passed : (ts : Tokens) → Full ts → Begins (first ts) Nothing → PassedOver ts
passed [] h b = tt
passed (t ∷ ts) h b = ⊎_elim (λ e. let len = ap length e in absurd (omega (arith, h.0))) (λ e. e) b

gap_alone : (ts : Tokens) (u : Unit {0}) (rest : Tokens) → Full ts → first ts ≡ codes "gap" → givens (End ∷ []) (others ts) ≡ Ok (u, rest) → ts ≡ codes "gap" ∷ []
gap_alone [] u rest h b e = let len = ap length b in absurd (omega arith)
gap_alone (t ∷ ts) u rest h b e = ap (λ w. w ∷ ts) b ∙ ap (λ l. codes "gap" ∷ l) (ended ts u rest h.1 e)

instruction_alone : (ts : Tokens) (i : Instruction) (rest : Tokens) → Full ts → first ts ≡ codes "Instruction" → whole (others ts) ≡ Ok (i, rest) → CanBe i × (ts ≡ written i)
instruction_alone [] i rest h b e = let len = ap length b in absurd (omega arith)
instruction_alone (t ∷ ts) i rest h b e =
    let one = then_ok (instruction ts) (λ x. then (givens (End ∷ []) x.1) (λ c. Ok (x.0, c.1))) (i, rest) e in
    let two = then_ok (givens (End ∷ []) one.0.1) (λ c. Ok (one.0.0, c.1)) (i, rest) one.1.1 in
    let last = ok_pair one.0.0 i two.0.1 rest two.1.1 in
    let part = instruction_sound ts one.0.0 one.0.1 one.1.0 in
    let is : t ∷ ts ≡ written one.0.0 ++ one.0.1 = ap (λ w. w ∷ ts) b ∙ part.1 in
    let none = ended one.0.1 two.0.0 two.0.1 (full_end (written one.0.0) one.0.1 (subst Full is h)) two.1.0 in
    (subst CanBe last.0 part.0, is ∙ ap (λ l. written one.0.0 ++ l) none ∙ append-nil (written one.0.0) ∙ ap written last.0)

begun : (s : Start) (ts : Tokens) (c : Option Call) (rest : Tokens) → Full ts → Begins (first ts) s → call_with s (others ts) ≡ Ok (c, rest) → CanCall c × Says ts c
begun Nothing ts c rest h b e = subst (λ d. CanCall d × Says ts d) (ok_pair None c (others ts) rest e).0 (tt, passed ts h b)
begun GapStart ts c rest h b e =
    let one = via_sound (λ _. Some Gap) (givens (End ∷ [])) (others ts) c rest e in
    subst (λ d. CanCall d × Says ts d) one.1.1 (tt, gap_alone ts one.0 rest h b one.1.0)
begun PrintStart ts c rest h b e =
    let one = via_sound (λ i. Some (Print i)) whole (others ts) c rest e in
    subst (λ d. CanCall d × Says ts d) one.1.1 (instruction_alone ts one.0 rest h b one.1.0)

call_sound : (ts : Tokens) (c : Option Call) (rest : Tokens) → Full ts → call ts ≡ Ok (c, rest) → CanCall c × Says ts c
call_sound ts c rest h e =
    let one = then_ok (taken a_call (row starts (first ts)) ts) (λ s. call_with s.0 s.1) (c, rest) e in
    let is = taken_ok a_call (row starts (first ts)) ts one.0.0 one.0.1 one.1.0 in
    begun one.0.0 ts c rest h (begins (first ts) one.0.0 is.0) (ap (call_with one.0.0) is.1 ∙ one.1.1)

print_complete : (i : Instruction) → CanBe i → call (written i) ≡ Ok (Some (Print i), [])
unfolding starts
print_complete i can =
    ap (λ l. call (codes "Instruction" ∷ l)) (sym (append-nil (others (written i))))
    ∙ ap (λ o. then {X = Instruction × Tokens} (then o (λ x. then (givens (End ∷ []) x.1) (λ c. Ok (x.0, c.1)))) (λ x. Ok (Some (Print x.0), x.1))) (instruction_complete i can [])

passed_complete : (ts : Tokens) → PassedOver ts → call ts ≡ Ok (None, others ts)
unfolding starts
passed_complete [] h = refl
passed_complete (t ∷ ts) h = ap (λ w. call (w ∷ ts)) h

gap_complete : call (codes "gap" ∷ []) ≡ Ok (Some Gap, [])
unfolding starts
gap_complete = refl

-- a line that says a call is read
call_complete : (ts : Tokens) (c : Option Call) → CanCall c → Says ts c → (rest : Tokens) × (call ts ≡ Ok (c, rest))
call_complete ts None can h = (others ts, passed_complete ts h)
call_complete ts (Some Gap) can h = ([], ap call h ∙ gap_complete)
call_complete ts (Some (Print i)) can h = ([], ap call h ∙ print_complete i can)

-- what an answer says of the line
pub answered_sound : (line : List ℕ) (r : Result (Option Call) Misread) → Answered line r → IfOk r (λ c. CanCall c × Says (tokens line) c)
answered_sound line (Ok c) e =
    let one = then_ok (call (tokens line)) (λ x. Ok x.0) c e in
    subst (λ d. CanCall d × Says (tokens line) d) (ok_is one.0.0 c one.1.1) (call_sound (tokens line) one.0.0 one.0.1 (tokens_full line) one.1.0)
answered_sound line (Err m) told = tt

pub answered_complete : (line : List ℕ) (r : Result (Option Call) Misread) → Answered line r → (c : Option Call) → CanCall c → Says (tokens line) c → Answers r c
answered_complete line (Ok d) e c can says =
    let whole = call_complete (tokens line) c can says in
    ok_is d c (sym e ∙ ap (λ o. then o (λ x. Ok x.0)) whole.1)
answered_complete line (Err m) told c can says =
    let whole = call_complete (tokens line) c can says in
    let read : reading (tokens line) ≡ Ok c = ap (λ o. then o (λ x. Ok x.0)) whole.1 in
    let stopped : reading (tokens line) ≡ Err told.0 = told.1.0 in
    cc
