-- The reader on tokens: what it takes off their front, or where it stops. Assumes nothing.
use Rattle.std.specs.Borrow.{Bor}
use Rattle.std.specs.Prelude.{ℕ, Bool, true, false, cond, ◌&&◌, List, [], ◌∷◌, Some, None, Ok, Err, codes, decimal, Option, Result, nat_le}
use Rattle.std.specs.Str.Parse.{digits_value}
use Rattle.std.specs.Str.{bytes_eq}
use Rattle.armv7.specs.declared.fault.Fault.{Fault}
use Rattle.misreading.specs.declared.given.Given.{Given}
use Rattle.misreading.specs.declared.given.Given.TheVariants.{OpenParen, CloseParen, Comma}
use Rattle.misreading.specs.declared.misread.Expected.{Expected}
use Rattle.misreading.specs.declared.misread.Expected.TheVariants.{Given as Token, Flag}
use Rattle.misreading.specs.Givens.{text_of}
use Rattle.notation.specs.Tokens.{first, others}

abbrev pub Tokens : Type 0
Tokens = List (List ℕ)

-- where reading stops: the tokens that are left, what was expected of the first of them, and the refusal of a number there
pub record Stop : Type 0 where
  pub left : Tokens
  pub expected : Expected
  pub refusal : Option Fault

abbrev pub Parser : Type 0 → Type 0
Parser X = Tokens → Result (X × Tokens) Stop

abbrev pub then : {X Y : Type 0} → Result X Stop → (X → Result Y Stop) → Result Y Stop
then (Ok x) f = f x
then (Err s) f = Err s

-- what the first token is, or that it is not what was expected
abbrev pub taken : {X : Type 0} → Expected → Option X → Parser X
taken e (Some x) ts = Ok (x, others ts)
taken e None ts = Err (record { left = ts; expected = e; refusal = None })

-- what a number stands for, or that it is refused
abbrev pub judged : {X : Type 0} → Expected → Result X (Option Fault) → Parser X
judged e (Ok x) ts = Ok (x, others ts)
judged e (Err f) ts = Err (record { left = ts; expected = e; refusal = f })

-- one token that has to stand there
abbrev pub given : Given → Parser (Unit {0})
given g ts = taken (Token g) (cond (bytes_eq (first ts) (text_of g)) (Some tt) None) ts

-- one after another
abbrev pub givens : List Given → Parser (Unit {0})
givens [] ts = Ok (tt, ts)
givens (g ∷ gs) ts = then (given g ts) (λ x. givens gs x.1)

-- what a table has for a word
abbrev pub Table : Type 0 → Type 0
Table X = List (List ℕ × X)

abbrev pub row : {X : Type 0} → Table X → List ℕ → Option X
row [] w = None
row (t ∷ ts) w = cond (bytes_eq w t.0) (Some t.1) (row ts w)

-- a table of the program
abbrev pub rows : {X : Type 0} → List (Bor (List ℕ) × X) → Table X
rows [] = []
rows (t ∷ ts) = (t.0.now, t.1) ∷ rows ts

abbrev pub chosen : {X : Type 0} → Expected → Table X → Parser X
chosen e table ts = taken e (row table (first ts)) ts

-- the number that is at most `most` and has this text
abbrev pub numeral : ℕ → List ℕ → Option ℕ
numeral most t = cond (bytes_eq t (decimal (digits_value 10 t)) && nat_le (digits_value 10 t) most) (Some (digits_value 10 t)) None

abbrev pub number : Expected → ℕ → Parser ℕ
number e most ts = taken e (numeral most (first ts)) ts

-- a number that stands for something
abbrev pub numbered : {X : Type 0} → Expected → ℕ → (ℕ → Result X (Option Fault)) → Parser X
numbered e most f ts = then (number e most ts) (λ n. judged e (f n.0) ts)

-- something after given tokens
abbrev pub after : {X : Type 0} → List Given → Parser X → Parser X
after front p ts = then (givens front ts) (λ o. p o.1)

-- something before given tokens
abbrev pub before : {X : Type 0} → Parser X → List Given → Parser X
before p back ts = then (p ts) (λ x. then (givens back x.1) (λ c. Ok (x.0, c.1)))

-- one and then another
abbrev pub both : {X Y : Type 0} → Parser X → Parser Y → Parser (X × Y)
both p q ts = then (p ts) (λ x. then (q x.1) (λ y. Ok ((x.0, y.0), y.1)))

abbrev pub bracketed : {X : Type 0} → Parser X → Parser X
bracketed p = after (OpenParen ∷ []) (before p (CloseParen ∷ []))

-- two, with a comma between them
abbrev pub pair : {X Y : Type 0} → Parser X → Parser Y → Parser (X × Y)
pair p q = both p (after (Comma ∷ []) q)

-- what is made of what was taken off
abbrev pub via : {X Y : Type 0} → (X → Y) → Parser X → Parser Y
via f p ts = then (p ts) (λ x. Ok (f x.0, x.1))

abbrev pub flag : Parser Bool
flag = chosen Flag ((codes "false", false) ∷ (codes "true", true) ∷ [])
