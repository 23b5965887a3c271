-- The notation of operands, as tokens: each by its case, with its values. Assumes nothing.
use Rattle.std.specs.Prelude.{ℕ, List, [], ◌∷◌, ◌++◌, codes}
use Rattle.armv7.specs.declared.operand.Operand.{Operand}
use Rattle.armv7.specs.declared.operand.Operand.TheVariants.{Reg, RegWBack, RegList, RegDeref, RegShift, RegDerefPostindexRegShift, RegDerefPreindexRegShift, RegDerefPostindexOffset, RegDerefPreindexOffset, RegDerefPostindexReg, RegDerefPreindexReg, Imm12, Imm32, BranchOffset, BranchThumbOffset, Coprocessor, CoprocOption, CReg, BankedReg, BankedSPSR, StatusRegMask, APSR, SPSR, CPSR, Nothing}
use Rattle.notation.specs.Notation.{Variant, plain_variant, told, a_flag, a_number, a_distance, a_register, a_control, a_shift, a_bank, a_mask, variant, AllHeld}

abbrev pub operand_variant : Operand → Variant
operand_variant (Reg r) = told (codes "Reg") (a_register r ∷ [])
operand_variant (RegWBack r b) = told (codes "RegWBack") (a_register r ∷ a_flag b ∷ [])
operand_variant (RegList n) = told (codes "RegList") (a_number 65535 n ∷ [])
operand_variant (RegDeref r) = told (codes "RegDeref") (a_register r ∷ [])
operand_variant (RegShift s) = told (codes "RegShift") (a_shift s ∷ [])
operand_variant (RegDerefPostindexRegShift r s a b) = told (codes "RegDerefPostindexRegShift") (a_register r ∷ a_shift s ∷ a_flag a ∷ a_flag b ∷ [])
operand_variant (RegDerefPreindexRegShift r s a b) = told (codes "RegDerefPreindexRegShift") (a_register r ∷ a_shift s ∷ a_flag a ∷ a_flag b ∷ [])
operand_variant (RegDerefPostindexOffset r n a b) = told (codes "RegDerefPostindexOffset") (a_register r ∷ a_number 65535 n ∷ a_flag a ∷ a_flag b ∷ [])
operand_variant (RegDerefPreindexOffset r n a b) = told (codes "RegDerefPreindexOffset") (a_register r ∷ a_number 65535 n ∷ a_flag a ∷ a_flag b ∷ [])
operand_variant (RegDerefPostindexReg r q a b) = told (codes "RegDerefPostindexReg") (a_register r ∷ a_register q ∷ a_flag a ∷ a_flag b ∷ [])
operand_variant (RegDerefPreindexReg r q a b) = told (codes "RegDerefPreindexReg") (a_register r ∷ a_register q ∷ a_flag a ∷ a_flag b ∷ [])
operand_variant (Imm12 n) = told (codes "Imm12") (a_number 65535 n ∷ [])
operand_variant (Imm32 n) = told (codes "Imm32") (a_number 4294967295 n ∷ [])
operand_variant (BranchOffset z) = told (codes "BranchOffset") (a_distance z ∷ [])
operand_variant (BranchThumbOffset z) = told (codes "BranchThumbOffset") (a_distance z ∷ [])
operand_variant (Coprocessor n) = told (codes "Coprocessor") (a_number 255 n ∷ [])
operand_variant (CoprocOption n) = told (codes "CoprocOption") (a_number 255 n ∷ [])
operand_variant (CReg r) = told (codes "CReg") (a_control r ∷ [])
operand_variant (BankedReg b r) = told (codes "BankedReg") (a_bank b ∷ a_register r ∷ [])
operand_variant (BankedSPSR b) = told (codes "BankedSPSR") (a_bank b ∷ [])
operand_variant (StatusRegMask m) = told (codes "StatusRegMask") (a_mask m ∷ [])
operand_variant APSR = plain_variant (codes "APSR")
operand_variant SPSR = plain_variant (codes "SPSR")
operand_variant CPSR = plain_variant (codes "CPSR")
operand_variant Nothing = plain_variant (codes "Nothing")

abbrev pub operand_written : Operand → List (List ℕ)
operand_written o = variant (operand_variant o)

-- operands with commas between them
abbrev pub operands_written : List Operand → List (List ℕ)
operands_written [] = []
operands_written (o ∷ []) = operand_written o
operands_written (o ∷ p ∷ ps) = operand_written o ++ codes "," ∷ operands_written (p ∷ ps)

-- the operands' numbers are ones that their types can hold
abbrev pub OperandsHeld : List Operand → Type 0
OperandsHeld [] = Unit {0}
OperandsHeld (o ∷ os) = AllHeld (operand_variant o).arguments × OperandsHeld os
