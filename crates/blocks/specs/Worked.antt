-- Worked lines of the grammar, each with its sheet. Assumes nothing.
use Rattle.std.specs.Prelude.{ℕ, Bool, true, false, codes}
use Rattle.armv7.specs.declared.condition.ConditionCode.{ConditionCode}
use Rattle.armv7.specs.declared.condition.ConditionCode.TheVariants.{EQ, NE, AL}
use Rattle.armv7.specs.declared.reg.Reg.{Reg}
use Rattle.armv7.specs.declared.reg.Reg.TheVariants.{R0, R13}
use Rattle.blocks.specs.declared.fields.Sheet.{Sheet}
use Rattle.blocks.specs.Grammar.{Fits}

-- load, add, pre, base, write-back, mask, condition, s, w, user
abbrev sheet : Bool → Bool → Bool → Reg → Bool → ℕ → ConditionCode → Bool → Bool → Bool → Sheet
sheet load add pre base wback mask condition s w user = record {
  load = load;
  add = add;
  pre = pre;
  base = base;
  wback = wback;
  mask = mask;
  condition = condition;
  s = s;
  w = w;
  user = user;
}

pub record WorkedSheets : Type 0 where
  pub pop_two : Fits (codes "pop {r4, pc}") (sheet true true false R13 true 0x8010 AL false false false)
  pub same_as_ldm : Fits (codes "ldm sp!, {r4, pc}") (sheet true true false R13 true 0x8010 AL false false false)
  pub push_none : Fits (codes "pushseq.w {}") (sheet false false true R13 true 0 EQ true true false)
  pub store_user : Fits (codes "stmdbne r0, {r0, sb}^") (sheet false false true R0 false 0x201 NE false false true)
  pub load_before : Fits (codes "ldmib r0!, {sp}") (sheet true true true R0 true 0x2000 AL false false false)
