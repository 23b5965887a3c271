-- The registers by number, and the names of the general-purpose ones. Assumes nothing.
use Rattle.std.specs.Prelude.{◌≡◌, ℕ, ◌%◌, ◌<◌, List, [], ◌∷◌, codes, slice_index_or, Result, MatchResult}
use Rattle.armv7.specs.declared.fault.Fault.{Fault}
use Rattle.armv7.specs.Faults.{refusal, refused_with, no_operand}
use Rattle.armv7.specs.declared.reg.Reg.{Reg}
use Rattle.armv7.specs.declared.reg.Reg.TheVariants.{R0, R1, R2, R3, R4, R5, R6, R7, R8, R9, R10, R11, R12, R13, R14, R15}
use Rattle.armv7.specs.declared.creg.CReg.{CReg}
use Rattle.armv7.specs.declared.creg.CReg.TheVariants.{C0, C1, C2, C3, C4, C5, C6, C7, C8, C9, C10, C11, C12, C13, C14, C15}

abbrev pub reg_number : Reg → ℕ
reg_number R0 = 0
reg_number R1 = 1
reg_number R2 = 2
reg_number R3 = 3
reg_number R4 = 4
reg_number R5 = 5
reg_number R6 = 6
reg_number R7 = 7
reg_number R8 = 8
reg_number R9 = 9
reg_number R10 = 10
reg_number R11 = 11
reg_number R12 = 12
reg_number R13 = 13
reg_number R14 = 14
reg_number R15 = 15

abbrev pub creg_number : CReg → ℕ
creg_number C0 = 0
creg_number C1 = 1
creg_number C2 = 2
creg_number C3 = 3
creg_number C4 = 4
creg_number C5 = 5
creg_number C6 = 6
creg_number C7 = 7
creg_number C8 = 8
creg_number C9 = 9
creg_number C10 = 10
creg_number C11 = 11
creg_number C12 = 12
creg_number C13 = 13
creg_number C14 = 14
creg_number C15 = 15

-- the names, from register 0 on
abbrev pub reg_names : List (List ℕ)
reg_names =
    codes "r0" ∷ codes "r1" ∷ codes "r2" ∷ codes "r3" ∷ codes "r4" ∷ codes "r5" ∷ codes "r6" ∷ codes "r7" ∷ codes "r8" ∷ codes "sb" ∷ codes "r10" ∷ codes "fp" ∷ codes "ip" ∷ codes "sp" ∷ codes "lr" ∷ codes "pc" ∷ []

abbrev pub reg_name : Reg → List ℕ
reg_name r = slice_index_or reg_names (reg_number r) []

-- the register that a number's low four bits number
abbrev pub reg_at : ℕ → Reg
reg_at n = slice_index_or (R0 ∷ R1 ∷ R2 ∷ R3 ∷ R4 ∷ R5 ∷ R6 ∷ R7 ∷ R8 ∷ R9 ∷ R10 ∷ R11 ∷ R12 ∷ R13 ∷ R14 ∷ R15 ∷ []) (n % 16) R0

-- an answer to a number: what it numbers, and above 15 a refusal
abbrev pub AnswersNumber : {R : Type 0} → (R → ℕ) → ℕ → Result R Fault → Type 0
AnswersNumber number n answer = MatchResult answer (λ reg. number reg ≡ n) (λ f. (15 < n) × (refusal f ≡ refused_with 1 no_operand))
