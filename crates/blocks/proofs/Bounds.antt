-- Every line is bounded. Assumes nothing.
use Rattle.std.proofs.Common.{◌≡◌, ℕ, ◌+◌, ◌-◌, ◌*◌, ◌/◌, ◌%◌, ◌≤◌, Bool, true, false, cond, eqb, List, [], ◌∷◌, ◌++◌, map, length, Some, None, codes, Option, sym, refl, ap, ◌∙◌, subst, append_assoc, arith, lit≤}
use Rattle.std.proofs.lemmas.Bool.{cond_both, leb-true}
use Rattle.armv7.specs.declared.condition.ConditionCode.{ConditionCode}
use Rattle.armv7.specs.declared.instruction.Instruction.{Instruction}
use Rattle.armv7.specs.declared.operand.Operand.{Operand}
use Rattle.armv7.specs.declared.operand.Operand.TheVariants.{Imm12, Imm32}
use Rattle.armv7.specs.Conditions.{condition_name, condition_number}
use Rattle.kind.specs.declared.Codes.{Codes}
use Rattle.kind.specs.declared.Kind.{Kind}
use Rattle.kind.specs.declared.Kind.TheVariants.{It, Cps, Setend, Coprocessor}
use Rattle.kind.specs.declared.Suffixes.{Suffixes}
use Rattle.kind.specs.declared.Suffixes.TheVariants.{Bare, Conditional, Full}
use Rattle.kind.specs.Kinds.{optional, kind_of}
use Rattle.opcode.specs.Names.{name_of}
use Rattle.sink.specs.declared.sink.Span.TheVariants.{Opcode, Register}
use Rattle.sink.specs.Items.{Item, text_items}
use Rattle.visitor.specs.Operands.{operand_items}
use Rattle.visitor.specs.Texts.{followed}
use Rattle.lines.specs.declared.alias.Stacked.{Stacked}
use Rattle.lines.specs.declared.alias.Stacked.TheVariants.{List as ListOf, One}
use Rattle.lines.specs.Lines.{suffix, suffixed, Parts, own_parts, stack_name, stack_row, moved_parts, it_letters, condition_at, it_parts, cps_letters, flag_row, mode_of, mode_rows, cps_parts, setend_parts, code_row, code_rows, coprocessor_parts, kind_parts, parts_by, behind_word, line_of, line}
use Rattle.lines.specs.Moved.{Moved, stacked, transferred, moved}
use Rattle.lines.specs.Operands.{operand, missing, four, reached}
use Rattle.blocks.specs.Bounds.{Bounded, BoundedLines}
use Rattle.blocks.proofs.Opcodes.{name_text, suffix_room, codes_fit, all_codes_fit}
use Rattle.blocks.proofs.Operands.{decimal_text, prefixed_text, reg_row, bang_text, list_row, operand_row}
use Rattle.blocks.proofs.Rows.{Text, row_append, row_text, row_span, row_within, row_behind, text_append, text, text_if, text_either}

record Fine (p : Parts) : Type 0 where
  bounded : Bounded 285 130 (line_of p)

-- rows that are bounded together, each behind a comma
record Rows (n m : ℕ) (rows : List (List Item)) : Type 0 where
  bounded : Bounded n m (followed rows)

no_rows : Rows 0 0 []
no_rows = record { bounded = row_text (text 0 [] refl) }

rows_within : {n m k l : ℕ} {rows : List (List Item)} → n ≤ k → m ≤ l → Rows n m rows → Rows k l rows
rows_within p q h = record { bounded = row_within p q h.bounded }

one_row : {n m k l : ℕ} {r : List Item} {rows : List (List Item)} → Bounded n m r → Rows k l rows → Rows (2 + (n + k)) (m + l) (r ∷ rows)
one_row h g = record { bounded = row_within (omega arith) (omega arith) (row_append (row_text (text 2 (codes ", ") refl)) (row_append h g.bounded)) }

followed_append : (a b : List (List Item)) → followed (a ++ b) ≡ followed a ++ followed b
followed_append [] b = refl
followed_append (r ∷ a) b = ap (λ is. text_items (codes ", ") ++ is) (ap (λ is. r ++ is) (followed_append a b) ∙ sym (append_assoc r (followed a) (followed b)))

rows_append : {n m k l : ℕ} {a b : List (List Item)} → Rows n m a → Rows k l b → Rows (n + k) (m + l) (a ++ b)
rows_append {n} {m} {k} {l} {a} {b} f g = record { bounded = subst (Bounded (n + k) (m + l)) (sym (followed_append a b)) (row_append f.bounded g.bounded) }

behind_row : {n m : ℕ} (rows : List (List Item)) → Rows n m rows → Bounded (n - 1) m (behind_word rows)
behind_row [] h = row_within (omega arith) (omega arith) (row_text (text 0 [] refl))
behind_row (r ∷ rows) h =
    let some = h.bounded.size in
    row_within (omega arith) (omega arith) (row_append (row_text (text 1 (codes " ") refl)) (row_behind (row_behind h.bounded)))

-- a line is as long as its word and its rows
fine : {n k m : ℕ} {word : List ℕ} {rows : List (List Item)} → n + k ≤ 286 → n ≤ 285 → m ≤ 128 → Text n word → Rows k m rows → Fine (record { word = word; rows = rows })
fine {rows = rows} p q r h g = record {
  bounded = row_within (omega arith) (omega arith) (row_append (row_span Opcode (row_text h) (row_text (text 0 [] refl))) (behind_row rows g));
}

condition_text : (c : ConditionCode) → Text 2 (condition_name c)
condition_text c = text 2 (condition_name c) (grind arith)

suffix_text : (i : Instruction) → Text 5 (suffix i)
suffix_text i =
    text_append (text_if i.s (text 1 (codes "s") refl))
    (text_append (text_either (eqb (condition_number i.condition) 14) (text 2 [] refl) (condition_text i.condition)) (text_if i.thumb_w (text 2 (codes ".w") refl)))

suffixed_text : (s : Suffixes) (i : Instruction) → Text (suffix_room s) (suffixed s i)
suffixed_text Bare i = text 0 [] refl
suffixed_text Conditional i = text_either (eqb (condition_number i.condition) 14) (text 2 [] refl) (condition_text i.condition)
suffixed_text Full i = suffix_text i

own_word : (i : Instruction) → Text 12 (name_of i.opcode ++ suffix i)
own_word i = text_append (name_text i.opcode) (suffix_text i)

reached_rows : (os : List Operand) → Rows (67 * length os) (32 * length os) (map operand_items (reached os))
reached_rows [] = no_rows
reached_rows (o ∷ os) = by (missing o) (reached_rows os)
  where
    by : (b : Bool) → Rows (67 * length os) (32 * length os) (map operand_items (reached os)) → Rows (67 * length (o ∷ os)) (32 * length (o ∷ os)) (map operand_items (cond b [] (o ∷ reached os)))
    by true h = rows_within (omega arith) (omega arith) no_rows
    by false h = rows_within (omega arith) (omega arith) (one_row (operand_row o) h)

own_fine : (i : Instruction) → Fine (own_parts i)
own_fine i = fine (lit≤ tt) (lit≤ tt) (lit≤ tt) (own_word i) (reached_rows (four i))

it_text : (c m : ℕ) → Text 3 (it_letters c m)
it_text c m = text 3 (it_letters c m) (grind arith)

cps_text : (n : ℕ) → Text 3 (cps_letters n)
cps_text n = text_append (text_if (eqb (n / 4 % 2) 1) (text 1 (codes "a") refl)) (text_append (text_if (eqb (n / 2 % 2) 1) (text 1 (codes "i") refl)) (text_if (eqb (n % 2) 1) (text 1 (codes "f") refl)))

row_of_text : {n : ℕ} {t : List ℕ} → Text n t → Rows (2 + (n + 0)) 0 (text_items t ∷ [])
row_of_text h = one_row (row_text h) no_rows

mode_fine : (o : Operand) → Rows 9 0 (mode_rows (mode_of o))
mode_fine (Imm12 n) = row_of_text (text_append (text 1 (codes "#") refl) (prefixed_text 4 n))
mode_fine other = rows_within (lit≤ tt) (lit≤ tt) no_rows

flag_fine : (n : ℕ) → Rows 5 0 (flag_row n)
flag_fine n = cond_both (eqb n 0) _ _ (Rows 5 0) (λ _. rows_within (lit≤ tt) (lit≤ tt) no_rows) (λ _. row_of_text (cps_text n))

codes_rows : (cs : List ℕ) → Rows (4 * length cs) 0 (map code_row cs)
codes_rows [] = no_rows
codes_rows (c ∷ cs) = rows_within (omega arith) (omega arith) (one_row (row_text (decimal_text c)) (codes_rows cs))

before_rows : (cs : List ℕ) → Rows (1 + 4 * length cs) 0 (code_rows cs)
before_rows [] = rows_within (omega arith) (omega arith) no_rows
before_rows (c ∷ cs) = rows_within (omega arith) (omega arith) (one_row (row_text (text_append (text 1 (codes "p") refl) (decimal_text c))) (codes_rows cs))

exact : (name : List ℕ) {n : ℕ} → Text n name → Text (length name) name
exact name h = record { size = omega arith; one_line = h.one_line }

coprocessor_fine : (c : Codes) (i : Instruction) → length (name_of i.opcode) + (suffix_room c.suffixes + (1 + (4 * length (c.coprocessor ∷ optional c.second) + 4 * length (optional c.third)))) ≤ 18 → Fine (coprocessor_parts c i)
coprocessor_fine c i h =
    fine (omega arith) (omega arith) (omega arith) (text_append (exact (name_of i.opcode) (name_text i.opcode)) (suffixed_text c.suffixes i))
    (rows_append (before_rows (c.coprocessor ∷ optional c.second)) (rows_append (reached_rows (four i)) (codes_rows (optional c.third))))

stack_text : (load : Bool) → Text 4 (stack_name load)
stack_text load = text_either load (text 4 (codes "pop") refl) (text 4 (codes "push") refl)

stack_fine_row : (m : Stacked) → Bounded 65 32 (stack_row m)
stack_fine_row (ListOf mask) = list_row mask
stack_fine_row (One r) = row_within (lit≤ tt) (lit≤ tt) (row_append (row_text (text 1 (codes "{") refl)) (row_span Register (reg_row r) (row_text (text 1 (codes "}") refl))))

moved_fine : (m : Moved) (i : Instruction) → Fine (moved_parts m i)
moved_fine (stacked form) i = fine (lit≤ tt) (lit≤ tt) (lit≤ tt) (text_append (stack_text form.load) (suffix_text i)) (one_row (stack_fine_row form.moved) no_rows)
moved_fine (transferred b) i =
    fine (lit≤ tt) (lit≤ tt) (lit≤ tt) (own_word i)
    (one_row (row_append (reg_row b.base) (row_text (bang_text b.wback))) (one_row (row_append (list_row b.mask) (row_text (text_if b.user (text 1 (codes "^") refl)))) no_rows))

it_fine : (a b : Operand) (i : Instruction) → Fine (it_parts a b i)
it_fine (Imm32 c) (Imm32 m) i = fine (lit≤ tt) (lit≤ tt) (lit≤ tt) (text_append (name_text i.opcode) (text_append (suffix_text i) (it_text c m))) (row_of_text (condition_text (condition_at c)))
it_fine a b i = own_fine i

cps_fine : (a b : Operand) (i : Instruction) → Fine (cps_parts a b i)
cps_fine (Imm12 flags) b i = fine (lit≤ tt) (lit≤ tt) (lit≤ tt) (own_word i) (rows_append (flag_fine flags) (mode_fine b))
cps_fine a b i = own_fine i

setend_fine : (a : Operand) (i : Instruction) → Fine (setend_parts a i)
setend_fine (Imm12 n) i = fine (lit≤ tt) (lit≤ tt) (lit≤ tt) (own_word i) (row_of_text (text_either (eqb n 0) (text 2 (codes "le") refl) (text 2 (codes "be") refl)))
setend_fine a i = own_fine i

kind_fine : (k : Kind) (i : Instruction) → codes_fit k (name_of i.opcode) ≡ true → Fine (kind_parts k i)
kind_fine It i e = it_fine (operand 0 i) (operand 1 i) i
kind_fine Cps i e = cps_fine (operand 0 i) (operand 1 i) i
kind_fine Setend i e = setend_fine (operand 0 i) i
kind_fine (Coprocessor c) i e =
    coprocessor_fine c i (leb-true (length (name_of i.opcode) + (suffix_room c.suffixes + (1 + (4 * length (c.coprocessor ∷ optional c.second) + 4 * length (optional c.third))))) 18 e)
kind_fine other i e = own_fine i

parts_fine : (o : Option Moved) (k : Kind) (i : Instruction) → codes_fit k (name_of i.opcode) ≡ true → Fine (parts_by o k i)
parts_fine (Some m) k i e = moved_fine m i
parts_fine None k i e = kind_fine k i e

pub lines_bounded : BoundedLines
unfolding line
lines_bounded i h = (parts_fine (moved i) (kind_of i.opcode) i (all_codes_fit i.opcode)).bounded
