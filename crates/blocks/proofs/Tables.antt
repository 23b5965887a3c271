-- A test that is computed at each register or condition holds of every one. Assumes nothing.
use Rattle.std.proofs.Common.{◌≡◌, Bool, true, List, [], ◌∷◌, arith}
use Rattle.std.specs.List.{list_all}
use Rattle.armv7.specs.declared.condition.ConditionCode.{ConditionCode}
use Rattle.armv7.specs.declared.condition.ConditionCode.TheVariants.{EQ, NE, HS, LO, MI, PL, VS, VC, HI, LS, GE, LT, GT, LE, AL}
use Rattle.armv7.specs.declared.reg.Reg.{Reg}
use Rattle.armv7.specs.declared.reg.Reg.TheVariants.{R0, R1, R2, R3, R4, R5, R6, R7, R8, R9, R10, R11, R12, R13, R14, R15}
use Rattle.armv7.specs.Conditions.{condition_number}
use Rattle.armv7.specs.Registers.{reg_number}

abbrev pub conditions : List ConditionCode
conditions = EQ ∷ NE ∷ HS ∷ LO ∷ MI ∷ PL ∷ VS ∷ VC ∷ HI ∷ LS ∷ GE ∷ LT ∷ GT ∷ LE ∷ AL ∷ []

abbrev pub registers : List Reg
registers = R0 ∷ R1 ∷ R2 ∷ R3 ∷ R4 ∷ R5 ∷ R6 ∷ R7 ∷ R8 ∷ R9 ∷ R10 ∷ R11 ∷ R12 ∷ R13 ∷ R14 ∷ R15 ∷ []

pub at_condition : (f : ConditionCode → Bool) → list_all f conditions ≡ true → (c : ConditionCode) → f c ≡ true
at_condition f e c = grind arith

pub at_register : (f : Reg → Bool) → list_all f registers ≡ true → (r : Reg) → f r ≡ true
at_register f e r = grind arith

pub same_conditions : (c d : ConditionCode) → condition_number c ≡ condition_number d → c ≡ d
same_conditions c d e = grind arith

pub same_registers : (r t : Reg) → reg_number r ≡ reg_number t → r ≡ t
same_registers r t e = grind arith
