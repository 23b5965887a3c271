-- A line as tokens: a run of letters, digits and underscores is one, and so is every other byte that is not blank.
-- Assumes nothing.
use Rattle.std.specs.Prelude.{ℕ, Bool, true, false, cond, ◌||◌, List, [], ◌∷◌, ◌==◌}
use Rattle.std.specs.Char.{is_ascii_alphanumeric}
use Rattle.std.specs.List.{prefix_len}

-- a space, a tab or a carriage return
abbrev pub blank : ℕ → Bool
blank b = (b == 32 || b == 9) || b == 13

abbrev pub wordy : ℕ → Bool
wordy b = is_ascii_alphanumeric b || b == 95

abbrev pub opens_wordy : List ℕ → Bool
opens_wordy [] = false
opens_wordy (b ∷ bs) = wordy b

-- the tokens once a wordy byte is put in front; it joins the first of them where that follows at once and is a word
abbrev pub put : ℕ → Bool → List (List ℕ) → List (List ℕ)
put b true (t ∷ ts) = (b ∷ t) ∷ ts
put b true [] = (b ∷ []) ∷ []
put b false ts = (b ∷ []) ∷ ts

abbrev pub tokens : List ℕ → List (List ℕ)
tokens [] = []
tokens (b ∷ bs) = cond (blank b) (tokens bs) (cond (wordy b) (put b (opens_wordy bs) (tokens bs)) ((b ∷ []) ∷ tokens bs))

-- the first token, which is empty where there is none, and those after it
abbrev pub first : List (List ℕ) → List ℕ
first [] = []
first (t ∷ ts) = t

abbrev pub others : List (List ℕ) → List (List ℕ)
others [] = []
others (t ∷ ts) = ts

-- how long the token is that a text begins with
abbrev pub first_len : List ℕ → ℕ
first_len [] = 0
first_len (b ∷ bs) = cond (wordy b) (prefix_len wordy (b ∷ bs)) 1
