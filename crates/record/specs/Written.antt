-- The notation of an instruction, as tokens. Assumes nothing.
use Rattle.std.specs.Prelude.{◌≡◌, ℕ, List, [], ◌∷◌, ◌++◌, length, codes}
use Rattle.armv7.specs.declared.condition.ConditionCode.{ConditionCode}
use Rattle.armv7.specs.declared.condition.ConditionCode.TheVariants.{EQ, NE, HS, LO, MI, PL, VS, VC, HI, LS, GE, LT, GT, LE, AL}
use Rattle.armv7.specs.declared.instruction.Instruction.{Instruction}
use Rattle.notation.specs.Notation.{flag_word, AllHeld}
use Rattle.operand_notation.specs.Written.{operands_written, OperandsHeld}
use Rattle.opcode_notation.specs.Written.{opcode_variant, opcode_written}

abbrev pub condition_word : ConditionCode → List ℕ
condition_word EQ = codes "EQ"
condition_word NE = codes "NE"
condition_word HS = codes "HS"
condition_word LO = codes "LO"
condition_word MI = codes "MI"
condition_word PL = codes "PL"
condition_word VS = codes "VS"
condition_word VC = codes "VC"
condition_word HI = codes "HI"
condition_word LS = codes "LS"
condition_word GE = codes "GE"
condition_word LT = codes "LT"
condition_word GT = codes "GT"
condition_word LE = codes "LE"
condition_word AL = codes "AL"

abbrev pub written : Instruction → List (List ℕ)
written i =
    codes "Instruction" ∷ codes "{" ∷ codes "condition" ∷ codes ":" ∷ condition_word i.condition
    ∷ codes "," ∷ codes "opcode" ∷ codes ":" ∷ (opcode_written i.opcode
    ++ codes "," ∷ codes "operands" ∷ codes ":" ∷ codes "[" ∷ (operands_written i.operands
    ++ codes "]" ∷ codes "," ∷ codes "s" ∷ codes ":" ∷ flag_word i.s
    ∷ codes "," ∷ codes "wide" ∷ codes ":" ∷ flag_word i.wide
    ∷ codes "," ∷ codes "thumb_w" ∷ codes ":" ∷ flag_word i.thumb_w
    ∷ codes "," ∷ codes "thumb" ∷ codes ":" ∷ flag_word i.thumb
    ∷ codes "}" ∷ []))

-- an instruction that can be: its numbers fit, and it has four operands
pub record CanBe (i : Instruction) : Type 0 where
  pub opcode : AllHeld (opcode_variant i.opcode).arguments
  pub operands : OperandsHeld i.operands
  pub four : length i.operands ≡ 4
