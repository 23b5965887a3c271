-- Worked lines. Assumes nothing.
use Rattle.std.specs.Prelude.{◌≡◌, ℕ, true, false, List, [], ◌∷◌, length, ℤ, pos, negsuc, Some, None, codes}
use Rattle.armv7.specs.declared.condition.ConditionCode.{ConditionCode}
use Rattle.armv7.specs.declared.condition.ConditionCode.TheVariants.{EQ, AL}
use Rattle.armv7.specs.declared.creg.CReg.TheVariants.{C1, C2}
use Rattle.armv7.specs.declared.instruction.Instruction.{Instruction}
use Rattle.armv7.specs.declared.operand.Operand.{Operand}
use Rattle.armv7.specs.declared.operand.Operand.TheVariants.{Reg as One, RegWBack, RegList, RegDerefPostindexOffset, Imm12, Imm32, BranchOffset, CReg as Control, Nothing}
use Rattle.armv7.specs.declared.reg.Reg.TheVariants.{R0, R3, R13}
use Rattle.armv7.specs.Faults.{refused_with}
use Rattle.opcode.specs.declared.Opcode.{Opcode}
use Rattle.opcode.specs.declared.Opcode.TheVariants.{LDM, STM, LDR, IT, CPS, MRC2, B}
use Rattle.sink.specs.Items.{bytes, marks_from}
use Rattle.lines.specs.Admission.{refused}
use Rattle.lines.specs.Lines.{line}

abbrev made : ConditionCode → Opcode → List Operand → Instruction
made c op os = record { condition = c; opcode = op; operands = os; s = false; wide = false; thumb_w = false; thumb = false }

abbrev two : Opcode → Operand → Operand → Instruction
two op a b = made AL op (a ∷ b ∷ Nothing ∷ Nothing ∷ [])

abbrev branch : ℤ → Instruction
branch z = two B (BranchOffset z) Nothing

abbrev Shows : Instruction → List ℕ → Type 0
Shows i text = (refused i ≡ None) × (bytes (line i) ≡ text)

pub record WorkedLines : Type 0 where
  pub pop_list : Shows (two (LDM true false false false) (RegWBack R13 true) (RegList 0x8010)) (codes "pop {r4, pc}")
  pub not_a_pop : Shows (two (LDM true false true false) (RegWBack R13 true) (RegList 0x8010)) (codes "ldm sp!, {r4, pc}")
  pub push_list : Shows (made EQ (STM false true false false) (RegWBack R13 true ∷ RegList 0x4010 ∷ Nothing ∷ Nothing ∷ [])) (codes "pusheq {r4, lr}")
  pub pop_one : Shows (two LDR (One R3) (RegDerefPostindexOffset R13 4 true false)) (codes "pop {r3}")
  pub pop_one_marks : length (marks_from 0 (line (two LDR (One R3) (RegDerefPostindexOffset R13 4 true false)))) ≡ 6
  pub load_one : Shows (two LDR (One R3) (RegDerefPostindexOffset R13 8 true false)) (codes "ldr r3, [sp], 0x8")
  pub it_then : Shows (two IT (Imm32 1) (Imm32 12)) (codes "itt ne")
  pub it_else : Shows (two IT (Imm32 0) (Imm32 12)) (codes "ite eq")
  pub interrupts : Shows (two (CPS false) (Imm12 3) (Imm12 0x13)) (codes "cpsie if, #0x13")
  pub coprocessor : Shows (made AL (MRC2 15 0 2) (One R0 ∷ Control C1 ∷ Control C2 ∷ Nothing ∷ [])) (codes "mrc2 p15, 0, r0, c1, c2, 2")
  pub backwards : Shows (branch (negsuc 1)) (codes "b $-0x8")
  pub here : Shows (branch (pos 0)) (codes "b $+0x0")
  pub furthest : Shows (branch (pos 536870911)) (codes "b $+0x7ffffffc")
  pub too_far : refused (branch (pos 536870912)) ≡ Some (refused_with 8 0)
