-- A word is read back: a name with its suffixes comes from one reading only. Assumes nothing.
use Rattle.std.proofs.Common.{◌≡◌, ℕ, Bool, true, false, cond, not, ◌&&◌, ◌||◌, eqb, List, [], ◌∷◌, get_or, drop, sym, refl, ap, ◌∙◌, arith}
use Rattle.std.specs.List.{AllByRecursion, list_all}
use Rattle.std.proofs.lemmas.Bool.{and_parts, eqb-true}
use Rattle.armv7.specs.declared.condition.ConditionCode.{ConditionCode}
use Rattle.armv7.specs.declared.condition.ConditionCode.TheVariants.{AL}
use Rattle.armv7.specs.Conditions.{condition_name, condition_number}
use Rattle.blocks.specs.Grammar.{Name, pop, push, transfer, Word, letters, OneWord}
use Rattle.blocks.proofs.Tables.{conditions, at_condition, same_conditions}
use Rattle.blocks.proofs.Split.{plain, Plain, all_plain}

abbrev at : ℕ → List ℕ → ℕ
at n t = get_or t n 0

-- i or d at the fourth place begins the two letters of a way
abbrev has_way : List ℕ → Bool
has_way t = eqb (at 3 t) 105 || eqb (at 3 t) 100

abbrev read_name : List ℕ → Name
read_name t =
    cond (eqb (at 1 t) 111) pop
    (cond (eqb (at 1 t) 117) push
    (transfer (eqb (at 1 t) 100) (not (eqb (at 3 t) 100)) (has_way t && eqb (at 4 t) 98)))

-- what stands behind the name
abbrev behind_name : List ℕ → List ℕ
behind_name t =
    cond (eqb (at 1 t) 111) (drop 3 t)
    (cond (eqb (at 1 t) 117) (drop 4 t)
    (cond (has_way t) (drop 5 t) (drop 3 t)))

abbrev read_s : List ℕ → Bool
read_s t = eqb (at 0 t) 115

abbrev behind_s : List ℕ → List ℕ
behind_s t = cond (read_s t) (drop 1 t) t

-- the condition among these that the text begins with
abbrev read_condition : List ConditionCode → List ℕ → ConditionCode
read_condition [] t = AL
read_condition (c ∷ cs) t = cond (eqb (at 0 t) (at 0 (condition_name c)) && eqb (at 1 t) (at 1 (condition_name c))) c (read_condition cs t)

abbrev has_point : List ℕ → Bool
has_point [] = false
has_point (b ∷ t) = eqb b 46 || has_point t

abbrev read : List ℕ → Word
read t = record { name = read_name t; s = read_s (behind_name t); condition = read_condition conditions (behind_s (behind_name t)); w = has_point t }

abbrev same : Bool → Bool → Bool
same true b = b
same false b = not b

abbrev same_name : Name → Name → Bool
same_name pop pop = true
same_name pop push = false
same_name pop (transfer a b c) = false
same_name push pop = false
same_name push push = true
same_name push (transfer a b c) = false
same_name (transfer a b c) pop = false
same_name (transfer a b c) push = false
same_name (transfer a b c) (transfer d e f) = same a d && (same b e && same c f)

abbrev same_word : Word → Word → Bool
same_word u v = same_name u.name v.name && (same u.s v.s && (eqb (condition_number u.condition) (condition_number v.condition) && same u.w v.w))

-- a test passes at each value
abbrev over_bools : (Bool → Bool) → Bool
over_bools f = f true && f false

abbrev over_names : (Name → Bool) → Bool
over_names f = f pop && (f push && over_bools (λ a. over_bools (λ b. over_bools (λ c. f (transfer a b c)))))

abbrev over_words : (Word → Bool) → Bool
over_words f = over_names (λ n. over_bools (λ s. list_all (λ c. over_bools (λ w. f (record { name = n; s = s; condition = c; w = w }))) conditions))

at_bool : (f : Bool → Bool) → over_bools f ≡ true → (b : Bool) → f b ≡ true
at_bool f e true = (and_parts (f true) (f false) e).0
at_bool f e false = (and_parts (f true) (f false) e).1

at_name : (f : Name → Bool) → over_names f ≡ true → (n : Name) → f n ≡ true
at_name f e n = grind arith

at_word : (f : Word → Bool) → over_words f ≡ true → (v : Word) → f v ≡ true
at_word f e v = at_bool by_w (at_condition by_condition (at_bool by_s (at_name by_name e v.name) v.s) v.condition) v.w
  where
    by_w : Bool → Bool
    by_w w = f (record { name = v.name; s = v.s; condition = v.condition; w = w })

    by_condition : ConditionCode → Bool
    by_condition c = over_bools (λ w. f (record { name = v.name; s = v.s; condition = c; w = w }))

    by_s : Bool → Bool
    by_s s = list_all (λ c. over_bools (λ w. f (record { name = v.name; s = s; condition = c; w = w }))) conditions

    by_name : Name → Bool
    by_name n = over_bools (λ s. list_all (λ c. over_bools (λ w. f (record { name = n; s = s; condition = c; w = w }))) conditions)

same_bools : (a b : Bool) → same a b ≡ true → a ≡ b
same_bools a b e = grind arith

same_names : (m n : Name) → same_name m n ≡ true → m ≡ n
same_names m n e = grind arith

same_words : (u v : Word) → same_word u v ≡ true → u ≡ v
same_words u v e =
    let a = and_parts (same_name u.name v.name) (same u.s v.s && (eqb (condition_number u.condition) (condition_number v.condition) && same u.w v.w)) e in
    let b = and_parts (same u.s v.s) (eqb (condition_number u.condition) (condition_number v.condition) && same u.w v.w) a.1 in
    let c = and_parts (eqb (condition_number u.condition) (condition_number v.condition)) (same u.w v.w) b.1 in
    λ i. record {
      name = same_names u.name v.name a.0 i;
      s = same_bools u.s v.s b.0 i;
      condition = same_conditions u.condition v.condition (eqb-true _ _ c.0) i;
      w = same_bools u.w v.w c.1 i;
    }

-- computed at each of the 600 words
read_back : (v : Word) → read (letters v) ≡ v
read_back v = same_words (read (letters v)) v (at_word (λ u. same_word (read (letters u)) u) refl v)

pub plain_words : (v : Word) → AllByRecursion Plain (letters v)
plain_words v = all_plain (letters v) (at_word (λ u. list_all plain (letters u)) refl v)

pub one_word : OneWord
one_word u v e = sym (read_back u) ∙ ap read e ∙ read_back v
