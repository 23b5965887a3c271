-- Lines one below the other, and how they are cut apart. Assumes nothing.
use Rattle.std.specs.Prelude.{◌≡◌, ℕ, List, [], ◌∷◌, ◌++◌, map, None}
use Rattle.std.specs.List.{AllByRecursion}
use Rattle.armv7.specs.declared.instruction.Instruction.{Instruction}
use Rattle.sink.specs.Items.{bytes}
use Rattle.lines.specs.Admission.{refused}
use Rattle.lines.specs.Lines.{line}
use Rattle.blocks.specs.Bounds.{OneLine}

-- each line with a line break behind it
abbrev pub page : List (List ℕ) → List ℕ
page [] = []
page (l ∷ ls) = l ++ 10 ∷ page ls

-- a text is cut into these lines: at every line break, and nowhere else
pub data Cut : List ℕ → List (List ℕ) → Type 0 where
  end : Cut [] []
  at_break : {l t : List ℕ} {ls : List (List ℕ)} → OneLine l → Cut t ls → Cut (l ++ 10 ∷ t) (l ∷ ls)

-- the page of these lines is cut into them, and into no others
pub record CutApart (ls : List (List ℕ)) : Type 0 where
  pub cut : Cut (page ls) ls
  pub only : (ms : List (List ℕ)) → Cut (page ls) ms → ms ≡ ls

abbrev pub printed : Instruction → List ℕ
printed i = bytes (line i)

pub record PagesCut : Type 0 where
  pub any : (ls : List (List ℕ)) → AllByRecursion OneLine ls → CutApart ls
  pub lines : (is : List Instruction) → AllByRecursion (λ i. refused i ≡ None) is → CutApart (map printed is)
