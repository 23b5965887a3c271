-- Operands are read as they are written. Assumes nothing.
use Rattle.std.proofs.Common.{◌≡◌, ℕ, List, [], ◌∷◌, ◌++◌, length, Some, Ok, codes, sym, refl, ap, ◌∙◌, subst, append_assoc, arith}
use Rattle.armv7.specs.declared.operand.Operand.{Operand}
use Rattle.armv7.specs.declared.operand.Operand.TheVariants.{Reg as in_reg, RegWBack, RegList, RegDeref, RegShift as in_shift, RegDerefPostindexRegShift, RegDerefPreindexRegShift, RegDerefPostindexOffset, RegDerefPreindexOffset, RegDerefPostindexReg, RegDerefPreindexReg, Imm12, Imm32, BranchOffset, BranchThumbOffset, Coprocessor as in_coprocessor, CoprocOption, CReg as in_creg, BankedReg, BankedSPSR, StatusRegMask as in_mask, APSR, SPSR, CPSR, Nothing}
use Rattle.misreading.specs.declared.misread.Expected.TheVariants.{Operand as an_operand, Code as a_code, Halfword as a_halfword, Word as a_word}
use Rattle.notation.specs.Notation.{a_flag, a_number, a_distance, a_register, a_control, a_shift, a_bank, a_mask, in_parentheses, AllHeld}
use Rattle.notation.specs.Parsing.{Tokens, then, taken, row, bracketed, pair, flag}
use Rattle.notation.specs.Parts.{register, control, shift, bank, mask, distance}
use Rattle.notation.proofs.Faithful.{Faithful, then_ok, taken_ok, ok_pair, row_is, alone_held, variant_sound, one_argument, two_arguments, four_arguments, pair_faithful, rewritten, via_sound}
use Rattle.notation.proofs.Leaves.{flag_faithful, number_faithful, register_faithful, control_faithful, shift_faithful, bank_faithful, mask_faithful, distance_faithful}
use Rattle.operand_notation.specs.declared.operand.Name.{Name}
use Rattle.operand_notation.specs.declared.operand.Name.TheVariants.{Register, WrittenBack, Registers, Address, Shifted, PostShifted, PreShifted, PostOffset, PreOffset, PostRegister, PreRegister, Twelve, Word, Branch, ThumbBranch, Coprocessor, Choice, Control, Banked, BankedStatus, Mask, Application, Saved, Current, Nothing as NoOperand}
use Rattle.operand_notation.specs.Operands.{names, code, halfword, word, alone, operand_with, operand, operands, Four, listed}
use Rattle.operand_notation.specs.Written.{operand_variant, operand_written, operands_written, OperandsHeld}

register_argument : Faithful (λ x. AllHeld (a_register x ∷ [])) (λ x. in_parentheses (a_register x ∷ [])) (bracketed register)
register_argument = one_argument (λ x. a_register x) register_faithful

written_back_argument : Faithful (λ x. AllHeld (a_register x.0 ∷ a_flag x.1 ∷ [])) (λ x. in_parentheses (a_register x.0 ∷ a_flag x.1 ∷ [])) (bracketed (pair register flag))
written_back_argument = two_arguments (λ x. a_register x) (λ x. a_flag x) register_faithful flag_faithful

halfword_argument : Faithful (λ x. AllHeld (a_number 65535 x ∷ [])) (λ x. in_parentheses (a_number 65535 x ∷ [])) (bracketed halfword)
halfword_argument = one_argument (λ x. a_number 65535 x) (number_faithful a_halfword 65535 (omega arith))

shifted_register_argument : Faithful (λ x. AllHeld (a_shift x ∷ [])) (λ x. in_parentheses (a_shift x ∷ [])) (bracketed shift)
shifted_register_argument = one_argument (λ x. a_shift x) shift_faithful

shifted_address_argument : Faithful (λ x. AllHeld (a_register x.0.0 ∷ a_shift x.0.1 ∷ a_flag x.1.0 ∷ a_flag x.1.1 ∷ [])) (λ x. in_parentheses (a_register x.0.0 ∷ a_shift x.0.1 ∷ a_flag x.1.0 ∷ a_flag x.1.1 ∷ [])) (bracketed (pair (pair register shift) (pair flag flag)))
shifted_address_argument = four_arguments (λ x. a_register x) (λ x. a_shift x) (λ x. a_flag x) (λ x. a_flag x) register_faithful shift_faithful flag_faithful flag_faithful

offset_address_argument : Faithful (λ x. AllHeld (a_register x.0.0 ∷ a_number 65535 x.0.1 ∷ a_flag x.1.0 ∷ a_flag x.1.1 ∷ [])) (λ x. in_parentheses (a_register x.0.0 ∷ a_number 65535 x.0.1 ∷ a_flag x.1.0 ∷ a_flag x.1.1 ∷ [])) (bracketed (pair (pair register halfword) (pair flag flag)))
offset_address_argument = four_arguments (λ x. a_register x) (λ x. a_number 65535 x) (λ x. a_flag x) (λ x. a_flag x) register_faithful (number_faithful a_halfword 65535 (omega arith)) flag_faithful flag_faithful

indexed_address_argument : Faithful (λ x. AllHeld (a_register x.0.0 ∷ a_register x.0.1 ∷ a_flag x.1.0 ∷ a_flag x.1.1 ∷ [])) (λ x. in_parentheses (a_register x.0.0 ∷ a_register x.0.1 ∷ a_flag x.1.0 ∷ a_flag x.1.1 ∷ [])) (bracketed (pair (pair register register) (pair flag flag)))
indexed_address_argument = four_arguments (λ x. a_register x) (λ x. a_register x) (λ x. a_flag x) (λ x. a_flag x) register_faithful register_faithful flag_faithful flag_faithful

word_argument : Faithful (λ x. AllHeld (a_number 4294967295 x ∷ [])) (λ x. in_parentheses (a_number 4294967295 x ∷ [])) (bracketed word)
word_argument = one_argument (λ x. a_number 4294967295 x) (number_faithful a_word 4294967295 (omega arith))

branch_argument : Faithful (λ x. AllHeld (a_distance x ∷ [])) (λ x. in_parentheses (a_distance x ∷ [])) (bracketed distance)
branch_argument = one_argument (λ x. a_distance x) distance_faithful

code_argument : Faithful (λ x. AllHeld (a_number 255 x ∷ [])) (λ x. in_parentheses (a_number 255 x ∷ [])) (bracketed code)
code_argument = one_argument (λ x. a_number 255 x) (number_faithful a_code 255 (omega arith))

control_register_argument : Faithful (λ x. AllHeld (a_control x ∷ [])) (λ x. in_parentheses (a_control x ∷ [])) (bracketed control)
control_register_argument = one_argument (λ x. a_control x) control_faithful

banked_register_argument : Faithful (λ x. AllHeld (a_bank x.0 ∷ a_register x.1 ∷ [])) (λ x. in_parentheses (a_bank x.0 ∷ a_register x.1 ∷ [])) (bracketed (pair bank register))
banked_register_argument = two_arguments (λ x. a_bank x) (λ x. a_register x) bank_faithful register_faithful

banked_argument : Faithful (λ x. AllHeld (a_bank x ∷ [])) (λ x. in_parentheses (a_bank x ∷ [])) (bracketed bank)
banked_argument = one_argument (λ x. a_bank x) bank_faithful

masked_argument : Faithful (λ x. AllHeld (a_mask x ∷ [])) (λ x. in_parentheses (a_mask x ∷ [])) (bracketed mask)
masked_argument = one_argument (λ x. a_mask x) mask_faithful

name_word : Name → List ℕ
name_word Register = codes "Reg"
name_word WrittenBack = codes "RegWBack"
name_word Registers = codes "RegList"
name_word Address = codes "RegDeref"
name_word Shifted = codes "RegShift"
name_word PostShifted = codes "RegDerefPostindexRegShift"
name_word PreShifted = codes "RegDerefPreindexRegShift"
name_word PostOffset = codes "RegDerefPostindexOffset"
name_word PreOffset = codes "RegDerefPreindexOffset"
name_word PostRegister = codes "RegDerefPostindexReg"
name_word PreRegister = codes "RegDerefPreindexReg"
name_word Twelve = codes "Imm12"
name_word Word = codes "Imm32"
name_word Branch = codes "BranchOffset"
name_word ThumbBranch = codes "BranchThumbOffset"
name_word Coprocessor = codes "Coprocessor"
name_word Choice = codes "CoprocOption"
name_word Control = codes "CReg"
name_word Banked = codes "BankedReg"
name_word BankedStatus = codes "BankedSPSR"
name_word Mask = codes "StatusRegMask"
name_word Application = codes "APSR"
name_word Saved = codes "SPSR"
name_word Current = codes "CPSR"
name_word NoOperand = codes "Nothing"

abbrev OperandHeld : Operand → Type 0
OperandHeld o = AllHeld (operand_variant o).arguments

alone_sound : (w : List ℕ) (p : Operand) → w ∷ [] ≡ operand_written p → (ts : Tokens) (o : Operand) (rest : Tokens) → alone p ts ≡ Ok (o, rest) → OperandHeld o × (w ∷ ts ≡ operand_written o ++ rest)
alone_sound w p is ts o rest e =
    let last = ok_pair p o ts rest e in
    (subst OperandHeld last.0 (alone_held w (operand_variant p) is), ap (λ l. l ++ ts) is ∙ ap (λ q. operand_written q ++ ts) last.0 ∙ ap (λ l. operand_written o ++ l) last.1)

named_sound : (n : Name) (ts : Tokens) (o : Operand) (rest : Tokens) → operand_with n ts ≡ Ok (o, rest) → OperandHeld o × (name_word n ∷ ts ≡ operand_written o ++ rest)
unfolding name_word
named_sound Register = variant_sound OperandHeld operand_written (λ x. in_reg x) (codes "Reg") register_argument (λ x. refl)
named_sound WrittenBack = variant_sound OperandHeld operand_written (λ x. RegWBack x.0 x.1) (codes "RegWBack") written_back_argument (λ x. refl)
named_sound Registers = variant_sound OperandHeld operand_written (λ x. RegList x) (codes "RegList") halfword_argument (λ x. refl)
named_sound Address = variant_sound OperandHeld operand_written (λ x. RegDeref x) (codes "RegDeref") register_argument (λ x. refl)
named_sound Shifted = variant_sound OperandHeld operand_written (λ x. in_shift x) (codes "RegShift") shifted_register_argument (λ x. refl)
named_sound PostShifted = variant_sound OperandHeld operand_written (λ x. RegDerefPostindexRegShift x.0.0 x.0.1 x.1.0 x.1.1) (codes "RegDerefPostindexRegShift") shifted_address_argument (λ x. refl)
named_sound PreShifted = variant_sound OperandHeld operand_written (λ x. RegDerefPreindexRegShift x.0.0 x.0.1 x.1.0 x.1.1) (codes "RegDerefPreindexRegShift") shifted_address_argument (λ x. refl)
named_sound PostOffset = variant_sound OperandHeld operand_written (λ x. RegDerefPostindexOffset x.0.0 x.0.1 x.1.0 x.1.1) (codes "RegDerefPostindexOffset") offset_address_argument (λ x. refl)
named_sound PreOffset = variant_sound OperandHeld operand_written (λ x. RegDerefPreindexOffset x.0.0 x.0.1 x.1.0 x.1.1) (codes "RegDerefPreindexOffset") offset_address_argument (λ x. refl)
named_sound PostRegister = variant_sound OperandHeld operand_written (λ x. RegDerefPostindexReg x.0.0 x.0.1 x.1.0 x.1.1) (codes "RegDerefPostindexReg") indexed_address_argument (λ x. refl)
named_sound PreRegister = variant_sound OperandHeld operand_written (λ x. RegDerefPreindexReg x.0.0 x.0.1 x.1.0 x.1.1) (codes "RegDerefPreindexReg") indexed_address_argument (λ x. refl)
named_sound Twelve = variant_sound OperandHeld operand_written (λ x. Imm12 x) (codes "Imm12") halfword_argument (λ x. refl)
named_sound Word = variant_sound OperandHeld operand_written (λ x. Imm32 x) (codes "Imm32") word_argument (λ x. refl)
named_sound Branch = variant_sound OperandHeld operand_written (λ x. BranchOffset x) (codes "BranchOffset") branch_argument (λ x. refl)
named_sound ThumbBranch = variant_sound OperandHeld operand_written (λ x. BranchThumbOffset x) (codes "BranchThumbOffset") branch_argument (λ x. refl)
named_sound Coprocessor = variant_sound OperandHeld operand_written (λ x. in_coprocessor x) (codes "Coprocessor") code_argument (λ x. refl)
named_sound Choice = variant_sound OperandHeld operand_written (λ x. CoprocOption x) (codes "CoprocOption") code_argument (λ x. refl)
named_sound Control = variant_sound OperandHeld operand_written (λ x. in_creg x) (codes "CReg") control_register_argument (λ x. refl)
named_sound Banked = variant_sound OperandHeld operand_written (λ x. BankedReg x.0 x.1) (codes "BankedReg") banked_register_argument (λ x. refl)
named_sound BankedStatus = variant_sound OperandHeld operand_written (λ x. BankedSPSR x) (codes "BankedSPSR") banked_argument (λ x. refl)
named_sound Mask = variant_sound OperandHeld operand_written (λ x. in_mask x) (codes "StatusRegMask") masked_argument (λ x. refl)
named_sound Application = alone_sound (codes "APSR") APSR refl
named_sound Saved = alone_sound (codes "SPSR") SPSR refl
named_sound Current = alone_sound (codes "CPSR") CPSR refl
named_sound NoOperand = alone_sound (codes "Nothing") Nothing refl

operand_complete : (o : Operand) → OperandHeld o → (rest : Tokens) → operand (operand_written o ++ rest) ≡ Ok (o, rest)
unfolding names
operand_complete (in_reg a) held rest = ap (λ o. then o (λ x. Ok (in_reg x.0, x.1))) (register_argument.complete a held rest)
operand_complete (RegWBack a b) held rest = ap (λ o. then o (λ x. Ok (RegWBack x.0.0 x.0.1, x.1))) (written_back_argument.complete (a, b) held rest)
operand_complete (RegList a) held rest = ap (λ o. then o (λ x. Ok (RegList x.0, x.1))) (halfword_argument.complete a held rest)
operand_complete (RegDeref a) held rest = ap (λ o. then o (λ x. Ok (RegDeref x.0, x.1))) (register_argument.complete a held rest)
operand_complete (in_shift a) held rest = ap (λ o. then o (λ x. Ok (in_shift x.0, x.1))) (shifted_register_argument.complete a held rest)
operand_complete (RegDerefPostindexRegShift a b c d) held rest = ap (λ o. then o (λ x. Ok (RegDerefPostindexRegShift x.0.0.0 x.0.0.1 x.0.1.0 x.0.1.1, x.1))) (shifted_address_argument.complete ((a, b), (c, d)) held rest)
operand_complete (RegDerefPreindexRegShift a b c d) held rest = ap (λ o. then o (λ x. Ok (RegDerefPreindexRegShift x.0.0.0 x.0.0.1 x.0.1.0 x.0.1.1, x.1))) (shifted_address_argument.complete ((a, b), (c, d)) held rest)
operand_complete (RegDerefPostindexOffset a b c d) held rest = ap (λ o. then o (λ x. Ok (RegDerefPostindexOffset x.0.0.0 x.0.0.1 x.0.1.0 x.0.1.1, x.1))) (offset_address_argument.complete ((a, b), (c, d)) held rest)
operand_complete (RegDerefPreindexOffset a b c d) held rest = ap (λ o. then o (λ x. Ok (RegDerefPreindexOffset x.0.0.0 x.0.0.1 x.0.1.0 x.0.1.1, x.1))) (offset_address_argument.complete ((a, b), (c, d)) held rest)
operand_complete (RegDerefPostindexReg a b c d) held rest = ap (λ o. then o (λ x. Ok (RegDerefPostindexReg x.0.0.0 x.0.0.1 x.0.1.0 x.0.1.1, x.1))) (indexed_address_argument.complete ((a, b), (c, d)) held rest)
operand_complete (RegDerefPreindexReg a b c d) held rest = ap (λ o. then o (λ x. Ok (RegDerefPreindexReg x.0.0.0 x.0.0.1 x.0.1.0 x.0.1.1, x.1))) (indexed_address_argument.complete ((a, b), (c, d)) held rest)
operand_complete (Imm12 a) held rest = ap (λ o. then o (λ x. Ok (Imm12 x.0, x.1))) (halfword_argument.complete a held rest)
operand_complete (Imm32 a) held rest = ap (λ o. then o (λ x. Ok (Imm32 x.0, x.1))) (word_argument.complete a held rest)
operand_complete (BranchOffset a) held rest = ap (λ o. then o (λ x. Ok (BranchOffset x.0, x.1))) (branch_argument.complete a held rest)
operand_complete (BranchThumbOffset a) held rest = ap (λ o. then o (λ x. Ok (BranchThumbOffset x.0, x.1))) (branch_argument.complete a held rest)
operand_complete (in_coprocessor a) held rest = ap (λ o. then o (λ x. Ok (in_coprocessor x.0, x.1))) (code_argument.complete a held rest)
operand_complete (CoprocOption a) held rest = ap (λ o. then o (λ x. Ok (CoprocOption x.0, x.1))) (code_argument.complete a held rest)
operand_complete (in_creg a) held rest = ap (λ o. then o (λ x. Ok (in_creg x.0, x.1))) (control_register_argument.complete a held rest)
operand_complete (BankedReg a b) held rest = ap (λ o. then o (λ x. Ok (BankedReg x.0.0 x.0.1, x.1))) (banked_register_argument.complete (a, b) held rest)
operand_complete (BankedSPSR a) held rest = ap (λ o. then o (λ x. Ok (BankedSPSR x.0, x.1))) (banked_argument.complete a held rest)
operand_complete (in_mask a) held rest = ap (λ o. then o (λ x. Ok (in_mask x.0, x.1))) (masked_argument.complete a held rest)
operand_complete APSR held rest = refl
operand_complete SPSR held rest = refl
operand_complete CPSR held rest = refl
operand_complete Nothing held rest = refl

name_is : (w : List ℕ) (n : Name) → row names w ≡ Some n → w ≡ name_word n
unfolding names name_word
name_is w n e = row_is name_word (λ v. v) names refl w n e

no_token : (o : Operand) (rest : Tokens) → operand [] ≡ Ok (o, rest) → ⊥
unfolding names
no_token o rest e = let z : ◌≡◌ {A = ℕ} 0 1 = cc in omega arith

operand_sound : (ts : Tokens) (o : Operand) (rest : Tokens) → operand ts ≡ Ok (o, rest) → OperandHeld o × (ts ≡ operand_written o ++ rest)
operand_sound [] o rest e = absurd (no_token o rest e)
operand_sound (t ∷ us) o rest e =
    let one = then_ok (taken an_operand (row names t) (t ∷ us)) (λ n. operand_with n.0 n.1) (o, rest) e in
    let is = taken_ok an_operand (row names t) (t ∷ us) one.0.0 one.0.1 one.1.0 in
    let part = named_sound one.0.0 us o rest (ap (operand_with one.0.0) is.1 ∙ one.1.1) in
    (part.0, ap (λ w. w ∷ us) (name_is t one.0.0 is.0) ∙ part.1)

operand_faithful : Faithful OperandHeld operand_written operand
operand_faithful = record { sound = operand_sound; complete = operand_complete }

four_faithful : Faithful (λ x. (OperandHeld x.0.0 × OperandHeld x.0.1) × (OperandHeld x.1.0 × OperandHeld x.1.1)) (λ x. operands_written (listed x)) (pair (pair operand operand) (pair operand operand))
four_faithful = rewritten
    (λ x. append_assoc (operand_written x.0.0) (codes "," ∷ operand_written x.0.1) (codes "," ∷ (operand_written x.1.0 ++ codes "," ∷ operand_written x.1.1)))
    (pair_faithful (pair_faithful operand_faithful operand_faithful) (pair_faithful operand_faithful operand_faithful))

four_of : (os : List Operand) → length os ≡ 4 → (x : Four) × (os ≡ listed x)
four_of [] e = absurd (omega arith)
four_of (a ∷ []) e = absurd (omega arith)
four_of (a ∷ b ∷ []) e = absurd (omega arith)
four_of (a ∷ b ∷ c ∷ []) e = absurd (omega arith)
four_of (a ∷ b ∷ c ∷ d ∷ []) e = (((a, b), (c, d)), refl)
four_of (a ∷ b ∷ c ∷ d ∷ o ∷ os) e = absurd (omega arith)

pub operands_faithful : Faithful (λ os. OperandsHeld os × (length os ≡ 4)) operands_written operands
operands_faithful = record {
  sound = λ ts os rest e.
      let one = via_sound listed (pair (pair operand operand) (pair operand operand)) ts os rest e in
      let part = four_faithful.sound ts one.0 rest one.1.0 in
      let held : OperandsHeld (listed one.0) × (length (listed one.0) ≡ 4) = ((part.0.0.0, (part.0.0.1, (part.0.1.0, (part.0.1.1, tt)))), refl) in
      (subst (λ l. OperandsHeld l × (length l ≡ 4)) one.1.1 held, part.1 ∙ ap (λ l. operands_written l ++ rest) one.1.1);
  complete = λ os can rest.
      let four = four_of os can.1 in
      let x = four.0 in
      let held : OperandsHeld (listed x) = subst OperandsHeld four.1 can.0 in
      ap (λ l. operands (operands_written l ++ rest)) four.1
      ∙ ap (λ o. then o (λ y. Ok (listed y.0, y.1))) (four_faithful.complete x ((held.0, held.1.0), (held.1.1.0, held.1.1.1.0)) rest)
      ∙ ap (λ l. Ok (l, rest)) (sym four.1);
}
