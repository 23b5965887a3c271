-- How a manual line differs from the printed line: it is that of the same instruction without s and without the opcode's own
-- write-back flag, and a register on its own lies in one span. Assumes nothing.
use Rattle.std.specs.Prelude.{◌≡◌, ℕ, Bool, true, false, [], ◌∷◌}
use Rattle.armv7.specs.declared.condition.ConditionCode.{ConditionCode}
use Rattle.armv7.specs.declared.instruction.Instruction.{Instruction}
use Rattle.armv7.specs.declared.operand.Operand.{Operand}
use Rattle.armv7.specs.declared.operand.Operand.TheVariants.{Reg as One, RegWBack, RegList, RegDerefPostindexOffset, RegDerefPreindexOffset, Nothing}
use Rattle.armv7.specs.declared.reg.Reg.{Reg}
use Rattle.armv7.specs.declared.reg.Reg.TheVariants.{R13}
use Rattle.opcode.specs.declared.Opcode.{Opcode}
use Rattle.opcode.specs.declared.Opcode.TheVariants.{LDM, STM, LDR, STR}
use Rattle.sink.specs.Items.{bytes}
use Rattle.lines.specs.Lines.{line}
use Rattle.manual.specs.Lines.{manual_line}

-- what the two spellings show alike of an instruction besides its operands: the condition and the sign of a wide one
module _ (c : ConditionCode) (wide w thumb : Bool) where
  abbrev pub with_two : Bool → Opcode → Operand → Operand → Instruction
  with_two s op a b = record { condition = c; opcode = op; operands = a ∷ b ∷ Nothing ∷ Nothing ∷ []; s = s; wide = wide; thumb_w = w; thumb = thumb }

  pub record PlainLines : Type 0 where
    pub loads : (add pre own user s : Bool) (base : Reg) (wback : Bool) (mask : ℕ) → manual_line (with_two s (LDM add pre own user) (RegWBack base wback) (RegList mask)) ≡ line (with_two false (LDM add pre false user) (RegWBack base wback) (RegList mask))
    pub stores : (add pre own user s : Bool) (base : Reg) (wback : Bool) (mask : ℕ) → manual_line (with_two s (STM add pre own user) (RegWBack base wback) (RegList mask)) ≡ line (with_two false (STM add pre false user) (RegWBack base wback) (RegList mask))
    pub pops : (s : Bool) (r : Reg) → bytes (manual_line (with_two s LDR (One r) (RegDerefPostindexOffset R13 4 true false))) ≡ bytes (line (with_two false LDR (One r) (RegDerefPostindexOffset R13 4 true false)))
    pub pushes : (s : Bool) (r : Reg) → bytes (manual_line (with_two s STR (One r) (RegDerefPreindexOffset R13 4 false true))) ≡ bytes (line (with_two false STR (One r) (RegDerefPreindexOffset R13 4 false true)))
