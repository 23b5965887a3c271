-- Any chain of a page's calls keeps the law on runs. Assumes nothing.
use Rattle.std.proofs.Common.{◌≡◌, ℕ, suc, ◌+◌, ◌-◌, ◌^◌, ◌<◌, ◌≤◌, true, false, List, [], ◌∷◌, ◌++◌, map, length, drop, Some, None, Option, Result, sym, refl, ap, ◌∙◌, subst, append_assoc, append-nil, arith, length-append}
use mathlib.Core.List.{map-append}
use lib.Seq.{drop-append_seam}
use Rattle.std.specs.List.{AllByRecursion}
use Rattle.armv7.specs.Faults.{Refusal}
use Rattle.sink.specs.Items.{Item, bytes}
use Rattle.sink.specs.Meaning.{Meaning, SinkOf, room}
use Rattle.sink.specs.Printed.{taken}
use Rattle.sink.proofs.Chain.{taken_both, room_taken, nothing}
use Rattle.blocks.specs.declared.fields.Sheet.{Sheet}
use Rattle.blocks.specs.Bounds.{Bounded, done, OneLine}
use Rattle.blocks.specs.Grammar.{Name, pop, push, transfer, name_letters, stack_name, Fits, stack_line, transfer_line}
use Rattle.blocks.proofs.Bounds.{lines_bounded}
use Rattle.blocks.proofs.Pages.{pages_cut}
use Rattle.blocks.proofs.Sheets.{own_sheets}
use Rattle.armv7.specs.declared.call.Call.{Call}
use Rattle.armv7.specs.declared.call.Call.TheVariants.{Print, Gap}
use Rattle.page.specs.declared.entry.Entry.{Entry}
use Rattle.page.specs.declared.entry.PageFault.{PageFault}
use Rattle.page.specs.declared.page.Page.{Page}
use Rattle.page.specs.Answers.{Told, lines, fault, told, told_by, owed}
use Rattle.page.specs.Rows.{row_refused, row}
use Rattle.runs.specs.Runs.{called, if_accepted, accepted, page_items, call_lines, page_text, CutsInto, Run}
use Rattle.page.specs.Spellings.{Spelling, FitsExactly, Lawful, own, call_refused, call_line, call_sheet}
use Rattle.page.specs.Steps.{counted, Changed, Step, made_on}
use Rattle.page.proofs.Fits.{clash, row_fits}
use Rattle.runs.specs.Chains.{Driven, made, then, StepsMakeRuns}
use Rattle.runs.proofs.Lines.{accepted_append, items_append, bytes_page, none_there, Place, last, before, place}

-- an empty line fits no sheet
named : (n : Name) (x : List ℕ) → [] ≡ name_letters n ++ x → ⊥
named pop x e = none_there [] 112 (111 ∷ 112 ∷ x) e
named push x e = none_there [] 112 (117 ∷ 115 ∷ 104 ∷ x) e
named (transfer true add pre) x e = none_there [] 108 _ e
named (transfer false add pre) x e = none_there [] 115 _ e

reassociate : (a b c : List ℕ) → [] ≡ (a ++ b) ++ c → [] ≡ a ++ (b ++ c)
reassociate a b c e = e ∙ append_assoc a b c

empty_fits : (t : Sheet) → Fits [] t → ⊥
empty_fits t (stack_line l) = named (stack_name t.load) _ (reassociate (name_letters (stack_name t.load)) _ _ l.written)
empty_fits t (transfer_line l) =
    named (transfer t.load t.add t.pre) _ (reassociate (name_letters (transfer t.load t.add t.pre)) _ _ l.written)

told_lines : (o : Option Refusal) (count next n : ℕ) → lines n ≡ told_by o count next → (o ≡ None) × (n ≡ next)
told_lines None count next n e = (refl, ap number e)
  where
    number : Told → ℕ
    number (lines k) = k
    number (fault why k) = k
told_lines (Some why) count next n e = clash (ap (λ t. if_accepted t 0 1) e)

-- the number of the next line is told only to an accepted call
next_told : (o : Option Refusal) (count a b : ℕ) → (o ≡ None → a ≡ b) → told_by o count a ≡ told_by o count b
next_told None count a b h = ap lines (h refl)
next_told (Some why) count a b h = refl

all_append : {A : Type 0} (P : A → Type 0) (xs : List A) (y : A) → AllByRecursion P xs → P y → AllByRecursion P (xs ++ y ∷ [])
all_append P [] y h k = (k, tt)
all_append P (x ∷ xs) y h k = (h.0, all_append P xs y h.1 k)

module _ (s : Spelling) where
  abbrev pub Admitted : Call → Type 0
  Admitted c = call_refused s c ≡ None

  line_bounded : Lawful s → (c : Call) → Admitted c → Bounded 285 130 (call_line s c)
  line_bounded w (Print i) h = w.bounded i h
  line_bounded w Gap h = record { size = omega arith; marks = omega arith; one_line = tt; nested = done }

  line_fits : Lawful s → (c : Call) → Admitted c → FitsExactly (call_line s c) (call_sheet s c)
  line_fits w (Print i) h t = w.fits i h t
  line_fits w Gap h t = ((λ f. absurd (empty_fits t f)), (λ e. clash cc))

  all_bounded : Lawful s → (cs : List Call) → AllByRecursion Admitted cs → AllByRecursion (Bounded 285 130) (call_lines s cs)
  all_bounded w [] h = tt
  all_bounded w (c ∷ cs) h = (line_bounded w c h.0, all_bounded w cs h.1)

  all_fit : Lawful s → (cs : List Call) → AllByRecursion Admitted cs → AllByRecursion (λ c. FitsExactly (call_line s c) (call_sheet s c)) cs
  all_fit w [] h = tt
  all_fit w (c ∷ cs) h = (line_fits w c h.0, all_fit w cs h.1)

  -- each line takes a byte at least
  page_grows : (cs : List Call) → length cs ≤ length (page_text s cs)
  page_grows [] = omega arith
  page_grows (c ∷ cs) = omega (arith, length-append (bytes (call_line s c)) (10 ∷ page_text s cs), page_grows cs)

  all_one_line : (ls : List (List Item)) → AllByRecursion (Bounded 285 130) ls → AllByRecursion OneLine (map bytes ls)
  all_one_line [] h = tt
  all_one_line (l ∷ ls) h = (h.0.one_line, all_one_line ls h.1)

  lines_push : (cs : List Call) (c : Call) → page_items (call_lines s (cs ++ c ∷ [])) ≡ page_items (call_lines s cs) ++ row (call_line s c)
  lines_push cs c = ap page_items (map-append (call_line s) cs (c ∷ [])) ∙ items_append (call_lines s cs) (call_line s c ∷ [])

  accepted_push : (es : List Entry) (e : Entry) (t : Told) → told e.answer ≡ t → accepted (es ++ e ∷ []) ≡ accepted es ++ if_accepted t (e.call ∷ []) []
  accepted_push es e t h = accepted_append es (e ∷ []) ∙ ap (λ u. accepted es ++ if_accepted u (e.call ∷ []) []) h

  abbrev pub Answered : Meaning → List Entry → Type 0
  Answered m es =
      (earlier later : List Entry) (e : Entry)
      → es ≡ earlier ++ e ∷ later
      → told e.answer ≡ owed s (room m - length (page_text s (accepted earlier))) (length (accepted earlier)) (suc (length (accepted earlier))) e.call

  -- one answer more
  answers_push : (m : Meaning) (es : List Entry) (y : Entry) → Answered m es → told y.answer ≡ owed s (room m - length (page_text s (accepted es))) (length (accepted es)) (suc (length (accepted es))) y.call → Answered m (es ++ y ∷ [])
  answers_push m es y h k earlier later e w = by (place es y earlier e later w)
    where
      by : Place es y earlier e → told e.answer ≡ owed s (room m - length (page_text s (accepted earlier))) (length (accepted earlier)) (suc (length (accepted earlier))) e.call
      by (last f g) =
          subst (λ es'. told e.answer ≡ owed s (room m - length (page_text s (accepted es'))) (length (accepted es')) (suc (length (accepted es'))) e.call) (sym f)
          (subst (λ x. told x.answer ≡ owed s (room m - length (page_text s (accepted es))) (length (accepted es)) (suc (length (accepted es))) x.call) (sym g) k)
      by (before after g) = h earlier after e g

module _ {S : Type 0} (sink : SinkOf S) (s : Spelling) (start : S) where
  -- where a chain of calls has come to
  pub record State (es : List Entry) (p : Page S) : Type 0 where
    pub held : sink.meaning p.sink ≡ taken (page_items (call_lines s (accepted es))) (sink.meaning start)
    pub rest : sink.kept (page_items (call_lines s (accepted es))) start p.sink
    pub count_is : p.count ≡ length (accepted es)
    pub admitted : AllByRecursion (Admitted s) (accepted es)
    pub answers : Answered s (sink.meaning start) es

  -- nothing was called yet
  begun : State [] (made_on start)
  begun = record { held = (nothing sink start).held; rest = sink.laws.stays start; count_is = refl; admitted = tt; answers = λ earlier later e h. absurd (none_there earlier e later h) }

  -- the room that the accepted lines have left
  room_left : {es : List Entry} {p : Page S} → State es p → room (sink.meaning p.sink) ≡ room (sink.meaning start) - length (page_text s (accepted es))
  room_left {es} st =
      ap room st.held ∙ room_taken (page_items (call_lines s (accepted es))) (sink.meaning start) ∙ ap (λ b. room (sink.meaning start) - length b) (bytes_page (call_lines s (accepted es)))

  -- a count below the text's length has a next number in 64 bits
  next_number : {es : List Entry} {p : Page S} → State es p → (o : Option Refusal) (size : ℕ) → row_refused o (room (sink.meaning p.sink)) size ≡ None → counted p.count ≡ suc (length (accepted es))
  next_number {es} {p} st o size h =
      let fits : suc size ≤ room (sink.meaning p.sink) = (row_fits o (room (sink.meaning p.sink)) size h).1 in
      let sound = sink.laws.sound p.sink in
      let limit : (sink.meaning p.sink).limit < 2 ^ 64 = sound.limit_bits in
      let long : length (sink.meaning p.sink).text ≡ length (sink.meaning start).text + length (page_text s (accepted es)) = ap (λ m. length m.text) st.held ∙ length-append (sink.meaning start).text _ ∙ ap (λ b. length (sink.meaning start).text + length b) (bytes_page (call_lines s (accepted es))) in
      let grows : length (accepted es) ≤ length (page_text s (accepted es)) = page_grows s (accepted es) in
      ap counted st.count_is ∙ (omega arith)

  stepped : {es : List Entry} {p q : Page S} {c : Call} {r : Result ℕ PageFault} → State es p → Step sink s c p r q → State (es ++ record { call = c; answer = r } ∷ []) q
  stepped {es} {p} {q} {c} {r} st x = by (told r) refl x.changed
    where
      next : row_refused (call_refused s c) (room (sink.meaning p.sink)) (length (bytes (call_line s c))) ≡ None → counted p.count ≡ suc (length (accepted es))
      next = next_number st (call_refused s c) (length (bytes (call_line s c)))

      answered : told r ≡ owed s (room (sink.meaning start) - length (page_text s (accepted es))) (length (accepted es)) (suc (length (accepted es))) c
      answered =
          x.answered
          ∙ next_told (row_refused (call_refused s c) (room (sink.meaning p.sink)) (length (bytes (call_line s c)))) p.count (counted p.count) (suc (length (accepted es))) next
          ∙ ap (λ k. told_by (row_refused (call_refused s c) (room (sink.meaning p.sink)) (length (bytes (call_line s c)))) k (suc (length (accepted es)))) st.count_is
          ∙ ap (λ k. owed s k (length (accepted es)) (suc (length (accepted es))) c) (room_left st)

      by : (t : Told) → told r ≡ t → Changed sink (call_line s c) t p q → State (es ++ record { call = c; answer = r } ∷ []) q
      by (lines k) h ch =
          let new : accepted (es ++ record { call = c; answer = r } ∷ []) ≡ accepted es ++ c ∷ [] = accepted_push s es (record { call = c; answer = r }) (lines k) h in
          let longer : page_items (call_lines s (accepted es)) ++ row (call_line s c) ≡ page_items (call_lines s (accepted (es ++ record { call = c; answer = r } ∷ []))) = sym (lines_push s (accepted es) c) ∙ ap (λ cs. page_items (call_lines s cs)) (sym new) in
          let fit = told_lines (row_refused (call_refused s c) (room (sink.meaning p.sink)) (length (bytes (call_line s c)))) p.count (counted p.count) k (sym h ∙ x.answered) in
          record {
            held = ch.held
                ∙ ap (taken (row (call_line s c))) st.held
                ∙ sym (taken_both (page_items (call_lines s (accepted es))) (row (call_line s c)) (sink.meaning start))
                ∙ ap (λ is. taken is (sink.meaning start)) longer;
            rest = subst (λ is. sink.kept is start q.sink) longer (sink.laws.adds_up (page_items (call_lines s (accepted es))) (row (call_line s c)) start p.sink q.sink st.rest ch.rest);
            count_is = ch.count_is ∙ fit.1 ∙ next fit.0 ∙ omega (arith, length-append (accepted es) (c ∷ [])) ∙ ap length (sym new);
            admitted = subst (AllByRecursion (Admitted s)) (sym new) (all_append (Admitted s) (accepted es) c st.admitted (row_fits (call_refused s c) _ _ fit.0).0);
            answers = answers_push s (sink.meaning start) es (record { call = c; answer = r }) st.answers answered;
          }
      by (fault f k) h ch =
          let same : accepted (es ++ record { call = c; answer = r } ∷ []) ≡ accepted es = accepted_push s es (record { call = c; answer = r }) (fault f k) h ∙ append-nil (accepted es) in
          record {
            held = ap (λ z. sink.meaning z.sink) ch ∙ st.held ∙ ap (λ cs. taken (page_items (call_lines s cs)) (sink.meaning start)) (sym same);
            rest = subst (λ z. sink.kept (page_items (call_lines s (accepted (es ++ record { call = c; answer = r } ∷ [])))) start z.sink) (sym ch) (subst (λ cs. sink.kept (page_items (call_lines s cs)) start p.sink) (sym same) st.rest);
            count_is = ap (λ z. z.count) ch ∙ st.count_is ∙ ap length (sym same);
            admitted = subst (AllByRecursion (Admitted s)) (sym same) st.admitted;
            answers = answers_push s (sink.meaning start) es (record { call = c; answer = r }) st.answers answered;
          }

  pub state : {es : List Entry} {p : Page S} → Driven sink s start es p → State es p
  state made = begun
  state (then d x) = stepped (state d) x

  pub law : Lawful s → {es : List Entry} {p : Page S} → State es p → (calls : List Call) → map called es ≡ calls → Run sink s start calls es p.sink p.count
  law w {es} {p} st calls h =
      let written : (sink.meaning p.sink).text ≡ (sink.meaning start).text ++ page_text s (accepted es) = ap (λ m. m.text) st.held ∙ ap (λ b. (sink.meaning start).text ++ b) (bytes_page (call_lines s (accepted es))) in
      let bounds : AllByRecursion (Bounded 285 130) (call_lines s (accepted es)) = all_bounded s w (accepted es) st.admitted in
      let apart = pages_cut.any (map bytes (call_lines s (accepted es))) (all_one_line s (call_lines s (accepted es)) bounds) in
      let page_is : page_text s (accepted es) ≡ drop (length (sink.meaning start).text) (sink.meaning p.sink).text = sym (ap (drop (length (sink.meaning start).text)) written ∙ drop-append_seam (sink.meaning start).text (page_text s (accepted es))) in
      record {
        calls_stand = h;
        answers = st.answers;
        text = written;
        lines_counted = st.count_is;
        cut = subst (λ t. CutsInto t (map bytes (call_lines s (accepted es)))) page_is (record { cut = apart.cut; only = apart.only });
        bounded = bounds;
        marks = ap (λ m. m.marks) st.held;
        limit_stands = ap (λ m. m.limit) st.held;
        mark_limit_stands = ap (λ m. m.mark_limit) st.held;
        rest = st.rest;
        sheets = all_fit s w (accepted es) st.admitted;
      }

pub lawful_own : Lawful own
lawful_own = record { bounded = lines_bounded; fits = own_sheets }

pub steps_make_runs : {S : Type 0} (sink : SinkOf S) {s : Spelling} → Lawful s → StepsMakeRuns sink s
steps_make_runs sink {s} w start es p d = law sink s start w (state sink s start d) (map called es) refl
