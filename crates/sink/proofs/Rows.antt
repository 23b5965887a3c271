-- Rows of items, one after the other: their bytes, their marks, and how much of them fits. Assumes nothing.
use Rattle.std.proofs.Common.{◌≡◌, ℕ, zero, suc, ◌+◌, ◌-◌, ◌<◌, ◌≤◌, List, [], ◌∷◌, ◌++◌, length, take, sym, refl, ap, ◌∙◌, append-nil, le_of_suc-le-suc, not-suc-le-zero, arith, length-append}
use Rattle.sink.specs.Items.{Item, byte, edge, text_items, bytes, marks_from, fitting}

pub bytes_append : (a b : List Item) → bytes (a ++ b) ≡ bytes a ++ bytes b
bytes_append [] b = refl
bytes_append (byte x ∷ a) b = ap (λ r. x ∷ r) (bytes_append a b)
bytes_append (edge e s ∷ a) b = bytes_append a b

pub length_bytes : (a b : List Item) → length (bytes (a ++ b)) ≡ length (bytes a) + length (bytes b)
length_bytes a b = ap length (bytes_append a b) ∙ length-append (bytes a) (bytes b)

pub marks_append : (n : ℕ) (a b : List Item) → marks_from n (a ++ b) ≡ marks_from n a ++ marks_from (n + length (bytes a)) b
marks_append n [] b = let none : n ≡ n + 0 = omega arith in ap (λ k. marks_from k b) none
marks_append n (byte x ∷ a) b = let more : suc n + length (bytes a) ≡ n + suc (length (bytes a)) = omega arith in marks_append (suc n) a b ∙ ap (λ k. marks_from (suc n) a ++ marks_from k b) more
marks_append n (edge e s ∷ a) b = ap (λ r. record { edge = e; span = s; at = n } ∷ r) (marks_append n a b)

pub bytes_text : (p : List ℕ) → bytes (text_items p) ≡ p
bytes_text [] = refl
bytes_text (x ∷ p) = ap (λ r. x ∷ r) (bytes_text p)

pub marks_text : (n : ℕ) (p : List ℕ) → marks_from n (text_items p) ≡ []
marks_text n [] = refl
marks_text n (x ∷ p) = marks_text (suc n) p

pub fitting_text : (n : ℕ) (p : List ℕ) → fitting n (text_items p) ≡ text_items (take n p)
fitting_text zero [] = refl
fitting_text (suc n) [] = refl
fitting_text zero (x ∷ p) = refl
fitting_text (suc n) (x ∷ p) = ap (λ r. byte x ∷ r) (fitting_text n p)

-- what fits whole leaves its length less to what follows
pub fitting_whole : (n : ℕ) (a b : List Item) → length (bytes a) ≤ n → fitting n (a ++ b) ≡ a ++ fitting (n - length (bytes a)) b
fitting_whole n [] b h = let all : n ≡ n - 0 = omega arith in ap (λ k. fitting k b) all
fitting_whole n (edge e s ∷ a) b h = ap (λ r. edge e s ∷ r) (fitting_whole n a b h)
fitting_whole zero (byte x ∷ a) b h = absurd (not-suc-le-zero h)
fitting_whole (suc n) (byte x ∷ a) b h =
    let less : n - length (bytes a) ≡ suc n - suc (length (bytes a)) = omega arith in
    ap (λ r. byte x ∷ r) (fitting_whole n a b (le_of_suc-le-suc h) ∙ ap (λ k. a ++ fitting k b) less)

-- what does not fit whole leaves nothing to what follows
pub fitting_cut : (n : ℕ) (a b : List Item) → n < length (bytes a) → fitting n (a ++ b) ≡ fitting n a
fitting_cut n [] b h = absurd (not-suc-le-zero h)
fitting_cut n (edge e s ∷ a) b h = ap (λ r. edge e s ∷ r) (fitting_cut n a b h)
fitting_cut zero (byte x ∷ a) b h = refl
fitting_cut (suc n) (byte x ∷ a) b h = ap (λ r. byte x ∷ r) (fitting_cut n a b (le_of_suc-le-suc h))

pub fitting_all : (n : ℕ) (a : List Item) → length (bytes a) ≤ n → fitting n a ≡ a
fitting_all n a h = ap (fitting n) (sym (append-nil a)) ∙ fitting_whole n a [] h ∙ append-nil a

-- a limit applied twice
pub take_twice : {A : Type 0} (n : ℕ) (xs ys : List A) → take n (take n xs ++ ys) ≡ take n (xs ++ ys)
take_twice zero xs ys = refl
take_twice (suc n) [] ys = refl
take_twice (suc n) (x ∷ xs) ys = ap (λ r. x ∷ r) (take_twice n xs ys)
