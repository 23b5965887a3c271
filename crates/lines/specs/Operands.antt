-- The operands of an instruction. Assumes nothing.
use Rattle.std.specs.Prelude.{ℕ, Bool, true, false, cond, ◌&&◌, List, [], ◌∷◌, slice_index_or}
use Rattle.armv7.specs.declared.instruction.Instruction.{Instruction}
use Rattle.armv7.specs.declared.operand.Operand.{Operand}
use Rattle.armv7.specs.declared.operand.Operand.TheVariants.{Reg as One, Nothing}
use Rattle.armv7.specs.declared.reg.Reg.TheVariants.{R0}

-- the operand at a place, of which there are always four
abbrev pub operand : ℕ → Instruction → Operand
operand n i = slice_index_or i.operands n (One R0)

-- the four of them
abbrev pub all_of : List Operand → List Operand
all_of os = slice_index_or os 0 (One R0) ∷ slice_index_or os 1 (One R0) ∷ slice_index_or os 2 (One R0) ∷ slice_index_or os 3 (One R0) ∷ []

abbrev pub four : Instruction → List Operand
four i = all_of i.operands

abbrev pub missing : Operand → Bool
missing Nothing = true
missing other = false

-- whether the operands behind the first two are missing
abbrev pub two_only : Instruction → Bool
two_only i = missing (operand 2 i) && missing (operand 3 i)

-- those before the first Nothing
abbrev pub reached : List Operand → List Operand
reached [] = []
reached (o ∷ os) = cond (missing o) [] (o ∷ reached os)
