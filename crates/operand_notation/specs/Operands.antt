-- The reader on tokens: operands. Assumes nothing.
use Rattle.std.specs.Prelude.{ℕ, Bool, List, [], ◌∷◌, Ok, codes}
use Rattle.armv7.specs.declared.operand.Operand.{Operand}
use Rattle.armv7.specs.declared.reg.Reg.{Reg}
use Rattle.armv7.specs.declared.operand.Operand.TheVariants.{Reg as in_reg, RegWBack, RegList, RegDeref, RegShift as in_shift, RegDerefPostindexRegShift, RegDerefPreindexRegShift, RegDerefPostindexOffset, RegDerefPreindexOffset, RegDerefPostindexReg, RegDerefPreindexReg, Imm12, Imm32, BranchOffset, BranchThumbOffset, Coprocessor as in_coprocessor, CoprocOption, CReg as in_creg, BankedReg, BankedSPSR, StatusRegMask as in_mask, APSR, SPSR, CPSR, Nothing}
use Rattle.misreading.specs.declared.misread.Expected.TheVariants.{Operand as an_operand, Code as a_code, Halfword as a_halfword, Word as a_word}
use Rattle.notation.specs.Parsing.{Parser, Table, then, via, pair, bracketed, number, flag, chosen}
use Rattle.notation.specs.Parts.{register, control, shift, bank, mask, distance}
use Rattle.operand_notation.specs.declared.operand.Name.{Name}
use Rattle.operand_notation.specs.declared.operand.Name.TheVariants.{Register, WrittenBack, Registers, Address, Shifted, PostShifted, PreShifted, PostOffset, PreOffset, PostRegister, PreRegister, Twelve, Word, Branch, ThumbBranch, Coprocessor, Choice, Control, Banked, BankedStatus, Mask, Application, Saved, Current, Nothing as NoOperand}

unfoldable pub names : Table Name
names =
    (codes "Reg", Register)
    ∷ (codes "RegWBack", WrittenBack)
    ∷ (codes "RegList", Registers)
    ∷ (codes "RegDeref", Address)
    ∷ (codes "RegShift", Shifted)
    ∷ (codes "RegDerefPostindexRegShift", PostShifted)
    ∷ (codes "RegDerefPreindexRegShift", PreShifted)
    ∷ (codes "RegDerefPostindexOffset", PostOffset)
    ∷ (codes "RegDerefPreindexOffset", PreOffset)
    ∷ (codes "RegDerefPostindexReg", PostRegister)
    ∷ (codes "RegDerefPreindexReg", PreRegister)
    ∷ (codes "Imm12", Twelve)
    ∷ (codes "Imm32", Word)
    ∷ (codes "BranchOffset", Branch)
    ∷ (codes "BranchThumbOffset", ThumbBranch)
    ∷ (codes "Coprocessor", Coprocessor)
    ∷ (codes "CoprocOption", Choice)
    ∷ (codes "CReg", Control)
    ∷ (codes "BankedReg", Banked)
    ∷ (codes "BankedSPSR", BankedStatus)
    ∷ (codes "StatusRegMask", Mask)
    ∷ (codes "APSR", Application)
    ∷ (codes "SPSR", Saved)
    ∷ (codes "CPSR", Current)
    ∷ (codes "Nothing", NoOperand)
    ∷ []

abbrev pub code : Parser ℕ
code = number a_code 255

abbrev pub halfword : Parser ℕ
halfword = number a_halfword 65535

abbrev pub word : Parser ℕ
word = number a_word 4294967295

-- an indexed address: its base, its offset, whether this is added, and whether the base is written back
abbrev pub Indexed : Type 0 → Type 0
Indexed O = (Reg × O) × (Bool × Bool)

abbrev pub indexed : {O : Type 0} → Parser O → Parser (Indexed O)
indexed p = bracketed (pair (pair register p) (pair flag flag))

-- nothing stands after the name
abbrev pub alone : Operand → Parser Operand
alone o ts = Ok (o, ts)

abbrev pub operand_with : Name → Parser Operand
operand_with Register = via (λ x. in_reg x) (bracketed register)
operand_with WrittenBack = via (λ x. RegWBack x.0 x.1) (bracketed (pair register flag))
operand_with Registers = via (λ x. RegList x) (bracketed halfword)
operand_with Address = via (λ x. RegDeref x) (bracketed register)
operand_with Shifted = via (λ x. in_shift x) (bracketed shift)
operand_with PostShifted = via (λ x. RegDerefPostindexRegShift x.0.0 x.0.1 x.1.0 x.1.1) (indexed shift)
operand_with PreShifted = via (λ x. RegDerefPreindexRegShift x.0.0 x.0.1 x.1.0 x.1.1) (indexed shift)
operand_with PostOffset = via (λ x. RegDerefPostindexOffset x.0.0 x.0.1 x.1.0 x.1.1) (indexed halfword)
operand_with PreOffset = via (λ x. RegDerefPreindexOffset x.0.0 x.0.1 x.1.0 x.1.1) (indexed halfword)
operand_with PostRegister = via (λ x. RegDerefPostindexReg x.0.0 x.0.1 x.1.0 x.1.1) (indexed register)
operand_with PreRegister = via (λ x. RegDerefPreindexReg x.0.0 x.0.1 x.1.0 x.1.1) (indexed register)
operand_with Twelve = via (λ x. Imm12 x) (bracketed halfword)
operand_with Word = via (λ x. Imm32 x) (bracketed word)
operand_with Branch = via (λ x. BranchOffset x) (bracketed distance)
operand_with ThumbBranch = via (λ x. BranchThumbOffset x) (bracketed distance)
operand_with Coprocessor = via (λ x. in_coprocessor x) (bracketed code)
operand_with Choice = via (λ x. CoprocOption x) (bracketed code)
operand_with Control = via (λ x. in_creg x) (bracketed control)
operand_with Banked = via (λ x. BankedReg x.0 x.1) (bracketed (pair bank register))
operand_with BankedStatus = via (λ x. BankedSPSR x) (bracketed bank)
operand_with Mask = via (λ x. in_mask x) (bracketed mask)
operand_with Application = alone APSR
operand_with Saved = alone SPSR
operand_with Current = alone CPSR
operand_with NoOperand = alone Nothing

abbrev pub operand : Parser Operand
operand ts = then (chosen an_operand names ts) (λ n. operand_with n.0 n.1)

abbrev pub Four : Type 0
Four = (Operand × Operand) × (Operand × Operand)

abbrev pub listed : Four → List Operand
listed x = x.0.0 ∷ x.0.1 ∷ x.1.0 ∷ x.1.1 ∷ []

-- the four operands of an instruction
abbrev pub operands : Parser (List Operand)
operands = via listed (pair (pair operand operand) (pair operand operand))
