-- The notation of the parts of an instruction, as tokens: what Rust's derived `Debug` writes of them. Assumes nothing.
use Rattle.std.specs.Prelude.{ℕ, suc, ◌≤◌, Bool, true, false, List, [], ◌∷◌, ◌++◌, ℤ, pos, negsuc, codes, decimal}
use Rattle.armv7.specs.Registers.{reg_number, creg_number}
use Rattle.armv7.specs.Shifts.{IsShiftWord}
use Rattle.armv7.specs.declared.bank.Bank.{Bank}
use Rattle.armv7.specs.declared.bank.Bank.TheVariants.{Usr, Fiq, Irq, Svc, Abt, Und, Mon, Hyp}
use Rattle.armv7.specs.declared.creg.CReg.{CReg}
use Rattle.armv7.specs.declared.reg.Reg.{Reg}
use Rattle.armv7.specs.declared.shift.RegShift.{RegShift}
use Rattle.armv7.specs.declared.status.StatusRegMask.{StatusRegMask}
use Rattle.armv7.specs.declared.status.StatusRegMask.TheVariants.{CPSR_C, CPSR_X, CPSR_XC, APSR_G, CPSR_SC, CPSR_SX, CPSR_SXC, APSR_NZCVQ, CPSR_FC, CPSR_FX, CPSR_FXC, APSR_NZCVQG, CPSR_FSC, CPSR_FSX, CPSR_FSXC, SPSR, SPSR_C, SPSR_X, SPSR_XC, SPSR_S, SPSR_SC, SPSR_SX, SPSR_SXC, SPSR_F, SPSR_FC, SPSR_FX, SPSR_FXC, SPSR_FS, SPSR_FSC, SPSR_FSX, SPSR_FSXC}

-- what can stand in an argument's place
pub data Argument : Type 0 where
  a_flag : Bool → Argument
  -- a number, after the largest that its type holds
  a_number : ℕ → ℕ → Argument
  a_distance : ℤ → Argument
  a_register : Reg → Argument
  a_control : CReg → Argument
  a_shift : RegShift → Argument
  a_bank : Bank → Argument
  a_mask : StatusRegMask → Argument

-- a case of an enum: its name, and its arguments
pub record Variant : Type 0 where
  pub name : List ℕ
  pub arguments : List Argument

abbrev pub plain_variant : List ℕ → Variant
plain_variant w = record { name = w; arguments = [] }

abbrev pub told : List ℕ → List Argument → Variant
told w xs = record { name = w; arguments = xs }

abbrev pub bank_word : Bank → List ℕ
bank_word Usr = codes "Usr"
bank_word Fiq = codes "Fiq"
bank_word Irq = codes "Irq"
bank_word Svc = codes "Svc"
bank_word Abt = codes "Abt"
bank_word Und = codes "Und"
bank_word Mon = codes "Mon"
bank_word Hyp = codes "Hyp"

abbrev pub mask_word : StatusRegMask → List ℕ
mask_word CPSR_C = codes "CPSR_C"
mask_word CPSR_X = codes "CPSR_X"
mask_word CPSR_XC = codes "CPSR_XC"
mask_word APSR_G = codes "APSR_G"
mask_word CPSR_SC = codes "CPSR_SC"
mask_word CPSR_SX = codes "CPSR_SX"
mask_word CPSR_SXC = codes "CPSR_SXC"
mask_word APSR_NZCVQ = codes "APSR_NZCVQ"
mask_word CPSR_FC = codes "CPSR_FC"
mask_word CPSR_FX = codes "CPSR_FX"
mask_word CPSR_FXC = codes "CPSR_FXC"
mask_word APSR_NZCVQG = codes "APSR_NZCVQG"
mask_word CPSR_FSC = codes "CPSR_FSC"
mask_word CPSR_FSX = codes "CPSR_FSX"
mask_word CPSR_FSXC = codes "CPSR_FSXC"
mask_word SPSR = codes "SPSR"
mask_word SPSR_C = codes "SPSR_C"
mask_word SPSR_X = codes "SPSR_X"
mask_word SPSR_XC = codes "SPSR_XC"
mask_word SPSR_S = codes "SPSR_S"
mask_word SPSR_SC = codes "SPSR_SC"
mask_word SPSR_SX = codes "SPSR_SX"
mask_word SPSR_SXC = codes "SPSR_SXC"
mask_word SPSR_F = codes "SPSR_F"
mask_word SPSR_FC = codes "SPSR_FC"
mask_word SPSR_FX = codes "SPSR_FX"
mask_word SPSR_FXC = codes "SPSR_FXC"
mask_word SPSR_FS = codes "SPSR_FS"
mask_word SPSR_FSC = codes "SPSR_FSC"
mask_word SPSR_FSX = codes "SPSR_FSX"
mask_word SPSR_FSXC = codes "SPSR_FSXC"

abbrev pub flag_word : Bool → List ℕ
flag_word true = codes "true"
flag_word false = codes "false"

-- NAME { FIELD: n }
abbrev pub in_braces : List ℕ → List ℕ → ℕ → List (List ℕ)
in_braces name f n = name ∷ codes "{" ∷ f ∷ codes ":" ∷ decimal n ∷ codes "}" ∷ []

-- a minus is a token of its own
abbrev pub signed_tokens : ℤ → List (List ℕ)
signed_tokens (pos n) = decimal n ∷ []
signed_tokens (negsuc n) = codes "-" ∷ decimal (suc n) ∷ []

abbrev pub argument : Argument → List (List ℕ)
argument (a_flag b) = flag_word b ∷ []
argument (a_number most n) = decimal n ∷ []
argument (a_distance z) = signed_tokens z
argument (a_register r) = in_braces (codes "Reg") (codes "bits") (reg_number r)
argument (a_control r) = in_braces (codes "CReg") (codes "bits") (creg_number r)
argument (a_shift s) = in_braces (codes "RegShift") (codes "data") s.«data»
argument (a_bank b) = bank_word b ∷ []
argument (a_mask m) = mask_word m ∷ []

-- a comma before each, and the parenthesis that ends them
abbrev pub more_arguments : List Argument → List (List ℕ)
more_arguments [] = codes ")" ∷ []
more_arguments (a ∷ xs) = codes "," ∷ (argument a ++ more_arguments xs)

-- in parentheses, if there are any
abbrev pub in_parentheses : List Argument → List (List ℕ)
in_parentheses [] = []
in_parentheses (a ∷ xs) = codes "(" ∷ (argument a ++ more_arguments xs)

abbrev pub variant : Variant → List (List ℕ)
variant v = v.name ∷ in_parentheses v.arguments

-- an argument that its type can hold
abbrev pub Held : Argument → Type 0
Held (a_flag b) = Unit {0}
Held (a_number most n) = n ≤ most
Held (a_distance (pos n)) = n ≤ 2147483647
Held (a_distance (negsuc n)) = n ≤ 2147483647
Held (a_register r) = Unit {0}
Held (a_control r) = Unit {0}
Held (a_shift s) = IsShiftWord s.«data»
Held (a_bank b) = Unit {0}
Held (a_mask m) = Unit {0}

abbrev pub AllHeld : List Argument → Type 0
AllHeld [] = Unit {0}
AllHeld (a ∷ xs) = Held a × AllHeld xs
