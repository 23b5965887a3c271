-- What is said of a line that cannot be read. Assumes nothing.
use Rattle.std.specs.Prelude.{ℕ, ◌/◌, ◌%◌, false, cond, ◌&&◌, List, [], ◌∷◌, ◌++◌, flat_map, Some, None, codes, decimal, Option, nat_le}
use Rattle.std.specs.Fmt.{digit_glyph}
use Rattle.armv7.specs.Faults.{refusal, fault_word}
use Rattle.armv7.specs.declared.fault.Fault.{Fault}
use Rattle.misreading.specs.declared.misread.Expected.{Expected}
use Rattle.misreading.specs.declared.misread.Expected.TheVariants.{Call, Given as Token, Condition, Opcode, Operand, Bank, Mask, Flag, Code, Halfword, Word, Distance, Register, Control, ShiftWord}
use Rattle.misreading.specs.declared.misread.Misread.{Misread}
use Rattle.misreading.specs.Givens.{text_of}

-- a token, or that there is none
abbrev pub or_at_end : List ℕ → List ℕ
or_at_end [] = codes "the end of the line"
or_at_end (b ∷ bs) = b ∷ bs

abbrev pub expected_text : Expected → List ℕ
expected_text Call = codes "gap or Instruction"
expected_text (Token g) = or_at_end (text_of g)
expected_text Condition = codes "a condition"
expected_text Opcode = codes "an opcode"
expected_text Operand = codes "an operand"
expected_text Bank = codes "a register bank"
expected_text Mask = codes "a status register mask"
expected_text Flag = codes "true or false"
expected_text Code = codes "a number from 0 to 255"
expected_text Halfword = codes "a number from 0 to 65535"
expected_text Word = codes "a number from 0 to 4294967295"
expected_text Distance = codes "a number from -2147483648 to 2147483647"
expected_text Register = codes "a register number from 0 to 15"
expected_text Control = codes "a control register number from 0 to 15"
expected_text ShiftWord = codes "a shift word"

-- a byte of printable ASCII as it is, and every other by its number: `\x` and two hexadecimal digits
abbrev pub shown_byte : ℕ → List ℕ
shown_byte b = cond (nat_le 32 b && nat_le b 126) (b ∷ []) (92 ∷ 120 ∷ digit_glyph false (b / 16) ∷ digit_glyph false (b % 16) ∷ [])

abbrev pub shown : List ℕ → List ℕ
shown bs = flat_map shown_byte bs

abbrev pub refusal_text : Option Fault → List ℕ
refusal_text None = []
refusal_text (Some f) = codes " (refusal " ++ (decimal (refusal f).number ++ (codes ": " ++ (shown (fault_word f) ++ codes ")")))

-- where a line cannot be read, what was expected there, what was found, and the refusal of a number
abbrev pub message_of : ℕ → Misread → List ℕ
message_of line m =
    codes "line "
    ++ (decimal line
    ++ (codes ", column "
    ++ (decimal m.column
    ++ (codes ": "
    ++ (shown (expected_text m.expected)
    ++ (codes " was expected, found "
    ++ (shown (or_at_end m.found.now) ++ refusal_text m.refusal)))))))
