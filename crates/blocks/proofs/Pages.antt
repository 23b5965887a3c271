-- A page is cut into its lines, and into no others. Assumes nothing.
use Rattle.std.proofs.Common.{◌≡◌, ℕ, List, [], ◌∷◌, ◌++◌, map, None, sym, refl, ap₂}
use Rattle.std.specs.List.{AllByRecursion}
use Rattle.armv7.specs.declared.instruction.Instruction.{Instruction}
use Rattle.lines.specs.Admission.{refused}
use Rattle.blocks.specs.Bounds.{OneLine}
use Rattle.blocks.specs.Pages.{page, Cut, end, at_break, CutApart, printed, PagesCut}
use Rattle.blocks.proofs.Bounds.{lines_bounded}
use Rattle.blocks.proofs.Split.{split, same_rest, never_empty}

cut_page : (ls : List (List ℕ)) → AllByRecursion OneLine ls → Cut (page ls) ls
cut_page [] h = end
cut_page (l ∷ ls) h = at_break h.0 (cut_page ls h.1)

filled : (l t : List ℕ) → [] ≡ l ++ 10 ∷ t → ⊥
filled [] t e = never_empty e
filled (x ∷ l) t e = never_empty e

only_page : {t : List ℕ} {ms : List (List ℕ)} → Cut t ms → (ls : List (List ℕ)) → AllByRecursion OneLine ls → t ≡ page ls → ms ≡ ls
only_page end [] h e = refl
only_page end (l ∷ ls) h e = absurd (filled l (page ls) e)
only_page (at_break {l = l} {t = t} f c) [] h e = absurd (filled l t (sym e))
only_page (at_break {l = l} {t = t} f c) (k ∷ ls) h e =
    let r = split (λ b. b ≡ 10 → ⊥) l k (10 ∷ t) (10 ∷ page ls) f h.0 (λ n. n refl) (λ n. n refl) e in
    ap₂ (λ x xs. x ∷ xs) r.0 (only_page c ls h.1 (same_rest r.1))

apart : (ls : List (List ℕ)) → AllByRecursion OneLine ls → CutApart ls
apart ls h = record { cut = cut_page ls h; only = λ ms c. only_page c ls h refl }

one_lines : (is : List Instruction) → AllByRecursion (λ i. refused i ≡ None) is → AllByRecursion OneLine (map printed is)
one_lines [] h = tt
one_lines (i ∷ is) h = ((lines_bounded i h.0).one_line, one_lines is h.1)

pub pages_cut : PagesCut
pages_cut = record { any = apart; lines = λ is h. apart (map printed is) (one_lines is h) }
