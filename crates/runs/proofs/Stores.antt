-- An answer that is stored beside its call is one more call of a chain. Assumes nothing.
use Rattle.std.proofs.Common.{◌≡◌, ℕ, ◌+◌, ◌<◌, List, map, length, get_or, take, set, Result, sym, ap, ◌∙◌, subst}
use lib.Seq.{map-set, set-get_or}
use Rattle.std.proofs.lemmas.List.{take_more_set}
use Rattle.sink.specs.Meaning.{SinkOf}
use Rattle.page.specs.declared.entry.Entry.{Entry}
use Rattle.page.specs.declared.entry.PageFault.{PageFault}
use Rattle.page.specs.declared.page.Page.{Page}
use Rattle.page.specs.Spellings.{Spelling}
use Rattle.page.specs.Steps.{Step}
use Rattle.runs.specs.Chains.{Driven, then}
use Rattle.runs.specs.Runs.{called}

-- an entry whose call is answered
abbrev pub answered_with : Entry → Result ℕ PageFault → Entry
answered_with e r = record { call = e.call; answer = r }

pub calls_kept : (es : List Entry) (k : ℕ) (d : Entry) (r : Result ℕ PageFault) → map called (set es k (answered_with (get_or es k d) r)) ≡ map called es
calls_kept es k d r = map-set called es k (answered_with (get_or es k d) r) ∙ sym (map-set called es k (get_or es k d)) ∙ ap (map called) (set-get_or es k d)

module _ {S : Type 0} (sink : SinkOf S) (s : Spelling) (start : S) where
  pub driven_more : (es : List Entry) (k : ℕ) (d : Entry) {p q : Page S} (r : Result ℕ PageFault) → k < length es → Driven sink s start (take k es) p → Step sink s (get_or es k d).call p r q → Driven sink s start (take (k + 1) (set es k (answered_with (get_or es k d) r))) q
  driven_more es k d {q = q} r l h x = subst (λ fs. Driven sink s start fs q) (sym (take_more_set es k (answered_with (get_or es k d) r) l)) (then h x)
