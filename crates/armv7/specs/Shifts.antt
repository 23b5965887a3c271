-- Shift words: which numbers are one, and the fields that the manual gives them. Assumes nothing.
use Rattle.std.specs.Prelude.{◌≡◌, ℕ, ◌-◌, ◌/◌, ◌%◌, ◌≤◌, cond, ◌&&◌, List, [], ◌∷◌, codes, ◌==◌, ◌≢◌, slice_index_or, Result, MatchResult}
use Rattle.armv7.specs.declared.fault.Fault.{Fault}
use Rattle.armv7.specs.Faults.{refusal, refused_with, no_operand}
use Rattle.armv7.specs.Registers.{reg_at}
use Rattle.armv7.specs.declared.shift.ShiftStyle.{ShiftStyle}
use Rattle.armv7.specs.declared.shift.ShiftStyle.TheVariants.{LSL, LSR, ASR, ROR}
use Rattle.armv7.specs.declared.shift.RegShift.{RegShift}
use Rattle.armv7.specs.declared.shift.RegShiftStyle.{RegShiftStyle}
use Rattle.armv7.specs.declared.shift.RegShiftStyle.TheVariants.{RegImm, RegReg}

abbrev pub style_name : ShiftStyle → List ℕ
style_name LSL = codes "lsl"
style_name LSR = codes "lsr"
style_name ASR = codes "asr"
style_name ROR = codes "ror"

-- the kind that a number's low two bits number
abbrev pub style_at : ℕ → ShiftStyle
style_at n = slice_index_or (LSL ∷ LSR ∷ ASR ∷ ROR ∷ []) (n % 4) LSL

-- bit k of a number, as 0 or 1, where p is 2 to the k
abbrev pub bit : ℕ → ℕ → ℕ
bit p w = w / p % 2

pub record IsShiftWord (w : ℕ) : Type 0 where
  pub range : w ≤ 4095
  pub apart : bit 16 w ≡ 1 → bit 128 w ≢ 1

-- the word of a value: its low twelve bits, and bit 7 only where bit 4 is clear
abbrev pub shift_word : RegShift → ℕ
shift_word s =
    let low = s.«data» % 4096 in
    cond (bit 16 low == 1 && bit 128 low == 1) (low - 128) low

abbrev pub shift_fields : ℕ → RegShiftStyle
shift_fields w =
    cond (bit 16 w == 0)
    (RegImm (record { shiftee = reg_at w; stype = style_at (w / 32); imm = w / 128 % 32 }))
    (RegReg (record { shiftee = reg_at w; stype = style_at (w / 32); shifter = reg_at (w / 256) }))

-- a refusal of a number that is no shift word
abbrev pub RefusesWord : ℕ → Fault → Type 0
RefusesWord n f = (IsShiftWord n → ⊥) × (refusal f ≡ refused_with 2 no_operand)

-- an answer to a number: a shift word is kept as it is, and another number is refused
abbrev pub AnswersWord : ℕ → Result RegShift Fault → Type 0
AnswersWord n answer = MatchResult answer (λ s. (s.«data» ≡ n) × IsShiftWord n) (RefusesWord n)
