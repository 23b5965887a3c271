-- The lines of block transfers, each with its sheet: a grammar of its own, which knows nothing of how lines are made. Assumes nothing.
use Rattle.std.specs.Prelude.{◌≡◌, ℕ, suc, ◌+◌, ◌^◌, ◌≤◌, Bool, true, false, cond, not, List, [], ◌∷◌, ◌++◌, codes, ◌==◌}
use Rattle.armv7.specs.declared.condition.ConditionCode.{ConditionCode}
use Rattle.armv7.specs.declared.condition.ConditionCode.TheVariants.{AL}
use Rattle.armv7.specs.declared.reg.Reg.{Reg}
use Rattle.armv7.specs.declared.reg.Reg.TheVariants.{R13}
use Rattle.armv7.specs.Conditions.{condition_name, condition_number}
use Rattle.armv7.specs.Registers.{reg_name, reg_number}
use Rattle.blocks.specs.declared.fields.Sheet.{Sheet}

-- a text that may be left out
abbrev pub optional : Bool → List ℕ → List ℕ
optional b t = cond b t []

pub data Name : Type 0 where
  pop push : Name
  -- whether it loads, whether the address rises, and whether it changes before each register
  transfer : Bool → Bool → Bool → Name

abbrev pub way : Bool → Bool → List ℕ
way true false = []
way true true = codes "ib"
way false false = codes "da"
way false true = codes "db"

abbrev pub name_letters : Name → List ℕ
name_letters pop = codes "pop"
name_letters push = codes "push"
name_letters (transfer true add pre) = codes "ldm" ++ way add pre
name_letters (transfer false add pre) = codes "stm" ++ way add pre

-- a condition that always holds is not written
abbrev pub condition_letters : ConditionCode → List ℕ
condition_letters c = cond (condition_number c == condition_number AL) [] (condition_name c)

pub record Word : Type 0 where
  pub name : Name
  pub s : Bool
  pub condition : ConditionCode
  pub w : Bool

abbrev pub letters : Word → List ℕ
letters v =
    name_letters v.name ++ (optional v.s (codes "s") ++ (condition_letters v.condition ++ optional v.w (codes ".w")))

-- registers by rising number, from n on
abbrev pub InOrder : ℕ → List Reg → Type 0
InOrder n [] = Unit {0}
InOrder n (r ∷ rs) = (n ≤ reg_number r) × InOrder (suc (reg_number r)) rs

abbrev pub bits : List Reg → ℕ
bits [] = 0
bits (r ∷ rs) = 2 ^ reg_number r + bits rs

-- what stands behind a register of a list: the others, each behind a comma, and the end
abbrev pub list_rest : List Reg → List ℕ
list_rest [] = codes "}"
list_rest (r ∷ rs) = codes ", " ++ (reg_name r ++ list_rest rs)

abbrev pub list_text : List Reg → List ℕ
list_text [] = codes "{}"
list_text (r ∷ rs) = codes "{" ++ (reg_name r ++ list_rest rs)

-- the text of a list, and the mask that it stands for
pub record Listed (text : List ℕ) (mask : ℕ) : Type 0 where
  pub regs : List Reg
  pub order : InOrder 0 regs
  pub stands : mask ≡ bits regs
  pub written : text ≡ list_text regs

-- the word of a sheet under one of its names
abbrev pub word : Name → Sheet → Word
word n t = record { name = n; s = t.s; condition = t.condition; w = t.w }

abbrev pub stack_name : Bool → Name
stack_name true = pop
stack_name false = push

-- a pop or a push: the registers are loaded from sp on, which rises past them, or stored below sp, which falls to them
pub record StackLine (b : List ℕ) (t : Sheet) : Type 0 where
  pub add : t.add ≡ t.load
  pub pre : t.pre ≡ not t.load
  pub base : t.base ≡ R13
  pub wback : t.wback ≡ true
  pub user : t.user ≡ false
  pub list : List ℕ
  pub listed : Listed list t.mask
  pub written : b ≡ letters (word (stack_name t.load) t) ++ (codes " " ++ list)

-- any transfer under its own name
pub record TransferLine (b : List ℕ) (t : Sheet) : Type 0 where
  pub list : List ℕ
  pub listed : Listed list t.mask
  pub written :
      b
      ≡ letters (word (transfer t.load t.add t.pre) t)
      ++ (codes " " ++ (reg_name t.base ++ (optional t.wback (codes "!") ++ (codes ", " ++ (list ++ optional t.user (codes "^"))))))

pub data Fits (b : List ℕ) (t : Sheet) : Type 0 where
  stack_line : StackLine b t → Fits b t
  transfer_line : TransferLine b t → Fits b t

-- a name with its suffixes is read in one way
abbrev pub OneWord : Type 0
OneWord = (u v : Word) → letters u ≡ letters v → u ≡ v

-- no two sheets share a line
abbrev pub OneSheet : Type 0
OneSheet = (b : List ℕ) (s t : Sheet) → Fits b s → Fits b t → s ≡ t
