-- The line of each instruction: its word in an opcode span, and behind it rows with commas between them. Assumes nothing.
use Rattle.std.specs.Prelude.{ℕ, ◌/◌, ◌%◌, Bool, cond, List, [], ◌∷◌, ◌++◌, map, take, Some, None, codes, Option, ◌==◌, slice_index_or}
use Rattle.armv7.specs.declared.condition.ConditionCode.{ConditionCode}
use Rattle.armv7.specs.declared.condition.ConditionCode.TheVariants.{EQ, NE, HS, LO, MI, PL, VS, VC, HI, LS, GE, LT, GT, LE, AL}
use Rattle.armv7.specs.declared.instruction.Instruction.{Instruction}
use Rattle.armv7.specs.declared.operand.Operand.{Operand}
use Rattle.armv7.specs.declared.operand.Operand.TheVariants.{Imm12, Imm32}
use Rattle.armv7.specs.Conditions.{condition_name, condition_number}
use Rattle.kind.specs.declared.Codes.{Codes}
use Rattle.kind.specs.declared.Kind.{Kind}
use Rattle.kind.specs.declared.Kind.TheVariants.{It, Cps, Setend, Coprocessor}
use Rattle.kind.specs.declared.Suffixes.{Suffixes}
use Rattle.kind.specs.declared.Suffixes.TheVariants.{Bare, Conditional, Full}
use Rattle.kind.specs.Kinds.{optional, kind_of}
use Rattle.opcode.specs.Names.{name_of}
use Rattle.sink.specs.declared.sink.Edge.TheVariants.{Start, End}
use Rattle.sink.specs.declared.sink.Span.TheVariants.{Opcode, Register}
use Rattle.sink.specs.Items.{Item, edge, text_items, within}
use Rattle.visitor.specs.Operands.{operand_items, bang}
use Rattle.visitor.specs.Texts.{flagged, reg_items, decimal, prefixed, joined, list_items}
use Rattle.lines.specs.declared.alias.Stacked.{Stacked}
use Rattle.lines.specs.declared.alias.Stacked.TheVariants.{List as ListOf, One}
use Rattle.lines.specs.declared.form.Block.{Block}
use Rattle.lines.specs.Moved.{Moved, stacked, transferred, moved}
use Rattle.lines.specs.Operands.{operand, four, reached}

-- the condition's letters, which AL has none of
abbrev pub condition_suffix : ConditionCode → List ℕ
condition_suffix c = cond (condition_number c == 14) [] (condition_name c)

abbrev pub suffix_of : Bool → ConditionCode → Bool → List ℕ
suffix_of s c w = flagged s (codes "s") ++ (condition_suffix c ++ flagged w (codes ".w"))

abbrev pub suffix : Instruction → List ℕ
suffix i = suffix_of i.s i.condition i.thumb_w

abbrev pub suffixed : Suffixes → Instruction → List ℕ
suffixed Bare i = []
suffixed Conditional i = condition_suffix i.condition
suffixed Full i = suffix i

-- a line in parts: the word, and the rows behind it
pub record Parts : Type 0 where
  pub word : List ℕ
  pub rows : List (List Item)

-- the mnemonic with all its suffixes, before these rows
abbrev pub shown : List (List Item) → Instruction → Parts
shown rows i = record { word = name_of i.opcode ++ suffix i; rows = rows }

-- the operands reached
abbrev pub own_parts : Instruction → Parts
own_parts i = shown (map operand_items (reached (four i))) i

abbrev pub stack_name : Bool → List ℕ
stack_name load = cond load (codes "pop") (codes "push")

-- the list of a pop or a push, or its register, which lies in two spans
abbrev pub stack_row : Stacked → List Item
stack_row (ListOf mask) = list_items mask
stack_row (One r) = text_items (codes "{") ++ (edge Start Register ∷ (reg_items r ++ (edge End Register ∷ text_items (codes "}"))))

-- the base and the list of a block transfer
abbrev pub block_rows : Block → List (List Item)
block_rows b = (reg_items b.base ++ text_items (bang b.wback)) ∷ (list_items b.mask ++ text_items (flagged b.user (codes "^"))) ∷ []

abbrev pub moved_parts : Moved → Instruction → Parts
moved_parts (stacked form) i = record { word = stack_name form.load ++ suffix i; rows = stack_row form.moved ∷ [] }
moved_parts (transferred b) i = shown (block_rows b) i

-- the letters of an IT block behind the first: one for each bit from 3 down to the one above the lowest set bit of the mask, t
-- where the bit is the condition's lowest bit
abbrev pub it_letter : ℕ → ℕ → ℕ
it_letter c b = cond (c % 2 == b % 2) 116 101

abbrev pub letter_count : ℕ → ℕ
letter_count m = cond (m % 2 == 1) 3 (cond (m / 2 % 2 == 1) 2 (cond (m / 4 % 2 == 1) 1 0))

abbrev pub it_letters : ℕ → ℕ → List ℕ
it_letters c m = take (letter_count m) (it_letter c (m / 8) ∷ it_letter c (m / 4) ∷ it_letter c (m / 2) ∷ [])

abbrev pub condition_at : ℕ → ConditionCode
condition_at n = slice_index_or (EQ ∷ NE ∷ HS ∷ LO ∷ MI ∷ PL ∷ VS ∷ VC ∷ HI ∷ LS ∷ GE ∷ LT ∷ GT ∷ LE ∷ AL ∷ []) n EQ

abbrev pub it_parts : Operand → Operand → Instruction → Parts
it_parts (Imm32 c) (Imm32 m) i = record { word = name_of i.opcode ++ (suffix i ++ it_letters c m); rows = text_items (condition_name (condition_at c)) ∷ [] }
it_parts first second i = own_parts i

-- the interrupts that flags stand for
abbrev pub cps_letters : ℕ → List ℕ
cps_letters n = flagged (n / 4 % 2 == 1) (codes "a") ++ (flagged (n / 2 % 2 == 1) (codes "i") ++ flagged (n % 2 == 1) (codes "f"))

abbrev pub flag_row : ℕ → List (List Item)
flag_row flags = cond (flags == 0) [] (text_items (cps_letters flags) ∷ [])

-- the mode of a CPS, if it has one
abbrev pub mode_of : Operand → Option ℕ
mode_of (Imm12 n) = Some n
mode_of other = None

abbrev pub mode_rows : Option ℕ → List (List Item)
mode_rows None = []
mode_rows (Some n) = text_items (codes "#" ++ prefixed 4 n) ∷ []

abbrev pub cps_parts : Operand → Operand → Instruction → Parts
cps_parts (Imm12 flags) mode i = shown (flag_row flags ++ mode_rows (mode_of mode)) i
cps_parts first second i = own_parts i

abbrev pub setend_text : ℕ → List ℕ
setend_text n = cond (n == 0) (codes "le") (codes "be")

abbrev pub setend_parts : Operand → Instruction → Parts
setend_parts (Imm12 n) i = shown (text_items (setend_text n) ∷ []) i
setend_parts other i = own_parts i

-- the coprocessor and the codes around the operands
abbrev pub code_row : ℕ → List Item
code_row n = text_items (decimal n)

abbrev pub code_rows : List ℕ → List (List Item)
code_rows [] = []
code_rows (c ∷ cs) = text_items (codes "p" ++ decimal c) ∷ map code_row cs

abbrev pub coprocessor_parts : Codes → Instruction → Parts
coprocessor_parts c i = record {
  word = name_of i.opcode ++ suffixed c.suffixes i;
  rows = code_rows (c.coprocessor ∷ optional c.second) ++ (map operand_items (reached (four i)) ++ map code_row (optional c.third));
}

abbrev pub kind_parts : Kind → Instruction → Parts
kind_parts It i = it_parts (operand 0 i) (operand 1 i) i
kind_parts Cps i = cps_parts (operand 0 i) (operand 1 i) i
kind_parts Setend i = setend_parts (operand 0 i) i
kind_parts (Coprocessor c) i = coprocessor_parts c i
kind_parts other i = own_parts i

abbrev pub parts_by : Option Moved → Kind → Instruction → Parts
parts_by (Some m) kind i = moved_parts m i
parts_by None kind i = kind_parts kind i

abbrev pub word_items : List ℕ → List Item
word_items word = within Opcode (text_items word)

-- a space and the rows, where there are any
abbrev pub behind_word : List (List Item) → List Item
behind_word [] = []
behind_word (r ∷ rs) = text_items (codes " ") ++ joined (r ∷ rs)

abbrev pub line_of : Parts → List Item
line_of p = word_items p.word ++ behind_word p.rows

abbrev pub parts : Instruction → Parts
parts i = parts_by (moved i) (kind_of i.opcode) i

unfoldable pub line : Instruction → List Item
line i = line_of (parts i)
