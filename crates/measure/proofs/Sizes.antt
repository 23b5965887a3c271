-- The size of a line, from the sizes of its word and its rows. Assumes nothing.
use Rattle.std.proofs.Common.{◌≡◌, ℕ, zero, suc, ◌+◌, ◌-◌, ◌/◌, ◌%◌, ◌<◌, cond, eqb, List, [], ◌∷◌, ◌++◌, map, length, codes, sym, refl, ap, ◌∙◌, arith, length-append, ne_eqb}
use lib.Count.{ones, ones_step, ones-le}
use Rattle.armv7.specs.declared.instruction.Instruction.{Instruction}
use Rattle.sink.specs.declared.sink.Edge.TheVariants.{End}
use Rattle.sink.specs.declared.sink.Span.TheVariants.{Opcode}
use Rattle.sink.specs.Items.{Item, edge, text_items}
use Rattle.sink.proofs.Rows.{length_bytes}
use Rattle.visitor.specs.Texts.{flagged, followed, decimal}
use Rattle.lines.specs.declared.form.Form.{Form}
use Rattle.lines.specs.Forms.{word_of, rows_of, parts_of}
use Rattle.lines.specs.Lines.{word_items, behind_word, line_of, parts, line, cps_letters, flag_row, code_row, code_rows}
use Rattle.measurer.proofs.Sizes.{size, size_text, flagged_length}

-- a row behind a comma, and the rows that follow it
pub row_size : (r : List Item) (rows : List (List Item)) → size (followed (r ∷ rows)) ≡ 2 + (size r + size (followed rows))
row_size r rows = omega (arith, length_bytes r (followed rows))

one_row_size : (r : List Item) → size (followed (r ∷ [])) ≡ 2 + size r
one_row_size r = omega (arith, row_size r [])

rows_size : (a b : List (List Item)) → size (followed (a ++ b)) ≡ size (followed a) + size (followed b)
rows_size [] b = omega arith
rows_size (r ∷ a) b = omega (arith, row_size r (a ++ b), row_size r a, rows_size a b)

behind_size : (rows : List (List Item)) → size (behind_word rows) ≡ size (followed rows) - 1
behind_size [] = omega arith
behind_size (r ∷ rows) = omega arith

word_items_size : (word : List ℕ) → size (word_items word) ≡ length word
word_items_size word = omega (arith, length_bytes (text_items word) (edge End Opcode ∷ []), size_text word)

-- the line of an instruction, by the form that it was admitted as
pub line_size : {w r k : ℕ} (i : Instruction) (f : Form) → w ≡ length (word_of f i) → r ≡ size (followed (rows_of f)) → k ≡ r - 1 → parts_of f i ≡ parts i → w + k ≡ size (line i)
unfolding line
line_size i f e g h shown =
    omega (arith, e, g, h, length_bytes (word_items (word_of f i)) (behind_word (rows_of f)), word_items_size (word_of f i), behind_size (rows_of f))
    ∙ ap (λ p. size (line_of p)) shown

-- the codes of a coprocessor form around the rows of its operands
pub coprocessor_size : {d m n o : ℕ} (c : ℕ) (before : List ℕ) (rows : List (List Item)) (behind : List ℕ) → d ≡ length (decimal c) → m ≡ size (followed (map code_row before)) → n ≡ size (followed rows) → o ≡ size (followed (map code_row behind)) → 3 + d + m + n + o ≡ size (followed (code_rows (c ∷ before) ++ (rows ++ map code_row behind)))
coprocessor_size c before rows behind e f g h =
    let first = text_items (codes "p" ++ decimal c) in
    let all = row_size first (map code_row before ++ (rows ++ map code_row behind)) in
    let one = size_text (codes "p" ++ decimal c) in
    let two = rows_size (map code_row before) (rows ++ map code_row behind) in
    let three = rows_size rows (map code_row behind) in
    omega (arith, e, f, g, h, all, one, two, three)

-- the base of a block transfer, and its list with the sign behind it
pub block_rows_size : {m n k : ℕ} (a b : List Item) (t : List ℕ) → m ≡ size a → n ≡ size (followed (b ∷ [])) → k ≡ length t → (2 + m) + n + k ≡ size (followed (a ∷ (b ++ text_items t) ∷ []))
block_rows_size a b t e f g =
    omega (arith, e, f, g, row_size a ((b ++ text_items t) ∷ []), one_row_size b, one_row_size (b ++ text_items t), length_bytes b (text_items t), size_text t)

-- a binary digit is a byte, where it is set
digit : (d : ℕ) → d < 2 → cond (eqb d 1) 1 0 ≡ d
digit zero h = refl
digit (suc zero) h = refl
digit (suc (suc d)) h = absurd (omega (arith, h))

-- a letter for each of the three low bits
letters_length : (n : ℕ) → length (cps_letters n) ≡ ones (n % 8)
letters_length n =
    let m = n % 8 in
    let a = flagged_length (eqb (n / 4 % 2) 1) 97 ∙ digit (n / 4 % 2) (omega arith) in
    let i = flagged_length (eqb (n / 2 % 2) 1) 105 ∙ digit (n / 2 % 2) (omega arith) in
    let f = flagged_length (eqb (n % 2) 1) 102 ∙ digit (n % 2) (omega arith) in
    let first = length-append (flagged (eqb (n / 4 % 2) 1) (codes "a")) (flagged (eqb (n / 2 % 2) 1) (codes "i") ++ flagged (eqb (n % 2) 1) (codes "f")) in
    let second = length-append (flagged (eqb (n / 2 % 2) 1) (codes "i")) (flagged (eqb (n % 2) 1) (codes "f")) in
    omega (arith, a, i, f, first, second, ones_step m, ones_step (m / 2), ones_step (m / 2 / 2), ones-le 0 (m / 2 / 2 / 2) (omega arith))

-- the interrupts of a CPS, if there are any
pub flag_row_size : (n : ℕ) → (n ≡ 0 → ⊥) → 2 + ones (n % 8) ≡ size (followed (flag_row n))
flag_row_size n some =
    sym (
    ap (λ t. size (followed (cond t [] (text_items (cps_letters n) ∷ [])))) (ne_eqb n 0 some)
    ∙ one_row_size (text_items (cps_letters n))
    ∙ ap (λ k. 2 + k) (size_text (cps_letters n) ∙ letters_length n))
