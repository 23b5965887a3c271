-- The conditions by the manual's number, and their letters. Assumes nothing.
use Rattle.std.specs.Prelude.{ℕ, List, codes}
use Rattle.armv7.specs.declared.condition.ConditionCode.{ConditionCode}
use Rattle.armv7.specs.declared.condition.ConditionCode.TheVariants.{EQ, NE, HS, LO, MI, PL, VS, VC, HI, LS, GE, LT, GT, LE, AL}

abbrev pub condition_number : ConditionCode → ℕ
condition_number EQ = 0
condition_number NE = 1
condition_number HS = 2
condition_number LO = 3
condition_number MI = 4
condition_number PL = 5
condition_number VS = 6
condition_number VC = 7
condition_number HI = 8
condition_number LS = 9
condition_number GE = 10
condition_number LT = 11
condition_number GT = 12
condition_number LE = 13
condition_number AL = 14

abbrev pub condition_name : ConditionCode → List ℕ
condition_name EQ = codes "eq"
condition_name NE = codes "ne"
condition_name HS = codes "hs"
condition_name LO = codes "lo"
condition_name MI = codes "mi"
condition_name PL = codes "pl"
condition_name VS = codes "vs"
condition_name VC = codes "vc"
condition_name HI = codes "hi"
condition_name LS = codes "ls"
condition_name GE = codes "ge"
condition_name LT = codes "lt"
condition_name GT = codes "gt"
condition_name LE = codes "le"
condition_name AL = codes "al"
