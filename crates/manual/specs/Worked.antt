-- Worked manual lines. Assumes nothing.
use Rattle.std.specs.Prelude.{◌≡◌, ℕ, Bool, true, false, List, [], ◌∷◌, length, pos, Some, None, codes}
use Rattle.armv7.specs.declared.condition.ConditionCode.{ConditionCode}
use Rattle.armv7.specs.declared.condition.ConditionCode.TheVariants.{EQ, NE, AL}
use Rattle.armv7.specs.declared.instruction.Instruction.{Instruction}
use Rattle.armv7.specs.declared.operand.Operand.{Operand}
use Rattle.armv7.specs.declared.operand.Operand.TheVariants.{Reg as One, RegWBack, RegList, RegDerefPostindexOffset, RegDerefPreindexOffset, BranchOffset, Nothing}
use Rattle.armv7.specs.declared.reg.Reg.TheVariants.{R0, R3, R7, R13}
use Rattle.armv7.specs.Faults.{refused_with}
use Rattle.opcode.specs.declared.Opcode.{Opcode}
use Rattle.opcode.specs.declared.Opcode.TheVariants.{LDM, STM, LDR, STR, POP, B}
use Rattle.sink.specs.Items.{bytes, marks_from}
use Rattle.manual.specs.Lines.{manual_refused, manual_line}

-- an instruction with two operands, s and the sign of a wide one
abbrev made : ConditionCode → Bool → Bool → Opcode → Operand → Operand → Instruction
made c s w op a b = record { condition = c; opcode = op; operands = a ∷ b ∷ Nothing ∷ Nothing ∷ []; s = s; wide = w; thumb_w = w; thumb = w }

abbrev two : Opcode → Operand → Operand → Instruction
two = made AL false false

abbrev Spells : Instruction → List ℕ → Type 0
Spells i text = (manual_refused i ≡ None) × (bytes (manual_line i) ≡ text)

pub record WorkedManualLines : Type 0 where
  pub pop_list : Spells (two (LDM true false false false) (RegWBack R13 true) (RegList 0x8010)) (codes "pop {r4, pc}")
  pub pop_by_operand : Spells (two (LDM true false true false) (RegWBack R13 true) (RegList 0x8010)) (codes "pop {r4, pc}")
  pub user_is_no_pop : Spells (two (LDM true false false true) (RegWBack R13 true) (RegList 0x8010)) (codes "ldm sp!, {r4, pc}^")
  pub push_list : Spells (made EQ true false (STM false true false false) (RegWBack R13 true) (RegList 0x4010)) (codes "pusheq {r4, lr}")
  pub before : Spells (two (LDM true true false false) (RegWBack R7 false) (RegList 0x3)) (codes "ldmib r7, {r0, r1}")
  pub downwards : Spells (made NE true true (STM false false false false) (RegWBack R0 true) (RegList 0x2)) (codes "stmdane.w r0!, {r1}")
  pub pop_one : Spells (two LDR (One R3) (RegDerefPostindexOffset R13 4 true false)) (codes "pop {r3}")
  pub pop_one_marks : length (marks_from 0 (manual_line (two LDR (One R3) (RegDerefPostindexOffset R13 4 true false)))) ≡ 4
  pub push_one : Spells (made EQ true true STR (One R3) (RegDerefPreindexOffset R13 4 false true)) (codes "pusheq.w {r3}")
  pub no_pop : manual_refused (two LDR (One R3) (RegDerefPostindexOffset R13 8 true false)) ≡ Some (refused_with 11 4)
  pub no_form_of_pop : manual_refused (two POP (RegList 0x8010) Nothing) ≡ Some (refused_with 11 4)
  -- an instruction that is not admitted is refused for that first
  pub too_far : manual_refused (two B (BranchOffset (pos 536870912)) Nothing) ≡ Some (refused_with 8 0)
