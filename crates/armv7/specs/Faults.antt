-- What each refusal says: its number, its word and the place that it is about. Assumes nothing.
use Rattle.std.specs.Prelude.{ℕ, List, codes}
use Rattle.armv7.specs.declared.fault.Place.{Place}
use Rattle.armv7.specs.declared.fault.Place.TheVariants.{First, Second, Third, Fourth}
use Rattle.armv7.specs.declared.fault.Fault.{Fault}
use Rattle.armv7.specs.declared.fault.Fault.TheVariants.{Register, ShiftWord, CodeNumber, Shape, Field, DeadOperand, WriteBack, Displacement, SinkFull, PageFull, NoManualForm}

pub record Refusal : Type 0 where
  pub number : ℕ
  pub place : ℕ

abbrev pub place_index : Place → ℕ
place_index First = 0
place_index Second = 1
place_index Third = 2
place_index Fourth = 3

-- the place of a refusal that is about no operand
abbrev pub no_operand : ℕ
no_operand = 4

abbrev pub refused_with : ℕ → ℕ → Refusal
refused_with n p = record { number = n; place = p }

abbrev pub refusal : Fault → Refusal
refusal Register = refused_with 1 no_operand
refusal ShiftWord = refused_with 2 no_operand
refusal CodeNumber = refused_with 3 no_operand
refusal Shape = refused_with 4 no_operand
refusal (Field p) = refused_with 5 (place_index p)
refusal (DeadOperand p) = refused_with 6 (place_index p)
refusal (WriteBack p) = refused_with 7 (place_index p)
refusal (Displacement p) = refused_with 8 (place_index p)
refusal SinkFull = refused_with 9 no_operand
refusal PageFull = refused_with 10 no_operand
refusal NoManualForm = refused_with 11 no_operand

abbrev pub fault_word : Fault → List ℕ
fault_word Register = codes "register"
fault_word ShiftWord = codes "shift word"
fault_word CodeNumber = codes "code number"
fault_word Shape = codes "shape"
fault_word (Field p) = codes "field"
fault_word (DeadOperand p) = codes "dead operand"
fault_word (WriteBack p) = codes "write-back"
fault_word (Displacement p) = codes "displacement"
fault_word SinkFull = codes "sink full"
fault_word PageFull = codes "page full"
fault_word NoManualForm = codes "no manual form"
