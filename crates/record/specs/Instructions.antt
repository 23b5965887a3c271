-- The reader on tokens: instructions. Assumes nothing.
use Rattle.std.specs.Prelude.{Bool, List, [], ◌∷◌, codes}
use Rattle.armv7.specs.declared.condition.ConditionCode.{ConditionCode}
use Rattle.armv7.specs.declared.condition.ConditionCode.TheVariants.{EQ, NE, HS, LO, MI, PL, VS, VC, HI, LS, GE, LT, GT, LE, AL}
use Rattle.armv7.specs.declared.instruction.Instruction.{Instruction}
use Rattle.armv7.specs.declared.operand.Operand.{Operand}
use Rattle.opcode.specs.declared.Opcode.{Opcode}
use Rattle.misreading.specs.declared.given.Given.TheVariants.{Condition, Opcode as OpcodeField, Operands, S, Wide, ThumbW, Thumb, OpenBrace, CloseBrace, OpenBracket, CloseBracket, Comma, Colon}
use Rattle.misreading.specs.declared.misread.Expected.TheVariants.{Condition as a_condition}
use Rattle.notation.specs.Parsing.{Parser, Table, chosen, flag, after, before, both, via}
use Rattle.record.specs.declared.instruction.Flags.{Flags}
use Rattle.opcode_notation.specs.Opcodes.{opcode}
use Rattle.operand_notation.specs.Operands.{operands}

unfoldable pub conditions : Table ConditionCode
conditions =
    (codes "EQ", EQ) ∷ (codes "NE", NE) ∷ (codes "HS", HS) ∷ (codes "LO", LO) ∷ (codes "MI", MI) ∷ (codes "PL", PL) ∷ (codes "VS", VS) ∷ (codes "VC", VC) ∷ (codes "HI", HI) ∷ (codes "LS", LS) ∷ (codes "GE", GE) ∷ (codes "LT", LT) ∷ (codes "GT", GT) ∷ (codes "LE", LE) ∷ (codes "AL", AL) ∷ []

-- the first two fields, with the brace before them
abbrev pub head : Parser (ConditionCode × Opcode)
head = both (after (OpenBrace ∷ Condition ∷ Colon ∷ []) (chosen a_condition conditions)) (after (Comma ∷ OpcodeField ∷ Colon ∷ []) opcode)

-- the last four fields, with the bracket before them and the brace after them
abbrev pub widths : Parser ((Bool × Bool) × (Bool × Bool))
widths =
    both
    (both (after (CloseBracket ∷ Comma ∷ S ∷ Colon ∷ []) flag) (after (Comma ∷ Wide ∷ Colon ∷ []) flag))
    (both (after (Comma ∷ ThumbW ∷ Colon ∷ []) flag) (before (after (Comma ∷ Thumb ∷ Colon ∷ []) flag) (CloseBrace ∷ [])))

abbrev pub from_flags : (Bool × Bool) × (Bool × Bool) → Flags
from_flags x = record { s = x.0.0; wide = x.0.1; thumb_w = x.1.0; thumb = x.1.1 }

abbrev pub flags : Parser Flags
flags = via from_flags widths

abbrev pub Fields : Type 0
Fields = (ConditionCode × Opcode) × (List Operand × Flags)

abbrev pub fields : Parser Fields
fields = both head (both (after (Comma ∷ Operands ∷ Colon ∷ OpenBracket ∷ []) operands) flags)

abbrev pub from_fields : Fields → Instruction
from_fields x = record {
  condition = x.0.0;
  opcode = x.0.1;
  operands = x.1.0;
  s = x.1.1.s;
  wide = x.1.1.wide;
  thumb_w = x.1.1.thumb_w;
  thumb = x.1.1.thumb;
}

abbrev pub instruction : Parser Instruction
instruction = via from_fields fields
