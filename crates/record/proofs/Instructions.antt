-- Instructions are read as they are written. Assumes nothing.
use Rattle.std.proofs.Common.{◌≡◌, ℕ, ◌<◌, List, [], ◌∷◌, ◌++◌, length, Some, Ok, codes, refl, ap, ◌∙◌, subst, arith}
use Rattle.armv7.specs.declared.condition.ConditionCode.{ConditionCode}
use Rattle.armv7.specs.declared.condition.ConditionCode.TheVariants.{EQ, NE, HS, LO, MI, PL, VS, VC, HI, LS, GE, LT, GT, LE, AL}
use Rattle.armv7.specs.declared.instruction.Instruction.{Instruction}
use Rattle.misreading.specs.declared.given.Given.TheVariants.{Condition, Opcode as OpcodeField, Operands, S, Wide, ThumbW, Thumb, OpenBrace, CloseBrace, OpenBracket, CloseBracket, Comma, Colon}
use Rattle.misreading.specs.declared.misread.Expected.TheVariants.{Condition as a_condition}
use Rattle.notation.specs.Notation.{flag_word, AllHeld}
use Rattle.notation.specs.Parsing.{Tokens, then, row, chosen}
use Rattle.notation.specs.Tokens.{others}
use Rattle.notation.proofs.Faithful.{Faithful, chosen_faithful, after_faithful, before_faithful, both_faithful, via_sound}
use Rattle.notation.proofs.Leaves.{flag_faithful}
use Rattle.opcode_notation.specs.Written.{opcode_variant, opcode_written}
use Rattle.opcode_notation.proofs.Opcodes.{opcode_faithful}
use Rattle.operand_notation.specs.Written.{operands_written, OperandsHeld}
use Rattle.operand_notation.proofs.Operands.{operands_faithful}
use Rattle.record.specs.Instructions.{conditions, widths, from_flags, flags, Fields, fields, from_fields, instruction}
use Rattle.record.specs.declared.instruction.Flags.{Flags}
use Rattle.record.specs.Written.{condition_word, written, CanBe}

condition_solid : (x : ConditionCode) → 0 < length (condition_word x)
condition_solid EQ = omega arith
condition_solid NE = omega arith
condition_solid HS = omega arith
condition_solid LO = omega arith
condition_solid MI = omega arith
condition_solid PL = omega arith
condition_solid VS = omega arith
condition_solid VC = omega arith
condition_solid HI = omega arith
condition_solid LS = omega arith
condition_solid GE = omega arith
condition_solid LT = omega arith
condition_solid GT = omega arith
condition_solid LE = omega arith
condition_solid AL = omega arith

condition_found : (x : ConditionCode) → row conditions (condition_word x) ≡ Some x
unfolding conditions
condition_found EQ = refl
condition_found NE = refl
condition_found HS = refl
condition_found LO = refl
condition_found MI = refl
condition_found PL = refl
condition_found VS = refl
condition_found VC = refl
condition_found HI = refl
condition_found LS = refl
condition_found GE = refl
condition_found LT = refl
condition_found GT = refl
condition_found LE = refl
condition_found AL = refl

condition_faithful : Faithful (λ _. Unit {0}) (λ x. condition_word x ∷ []) (chosen a_condition conditions)
unfolding conditions
condition_faithful = chosen_faithful a_condition condition_word conditions refl condition_solid condition_found

abbrev flags_written : Flags → Tokens
flags_written x =
    codes "]" ∷ codes "," ∷ codes "s" ∷ codes ":" ∷ flag_word x.s
    ∷ codes "," ∷ codes "wide" ∷ codes ":" ∷ flag_word x.wide
    ∷ codes "," ∷ codes "thumb_w" ∷ codes ":" ∷ flag_word x.thumb_w
    ∷ codes "," ∷ codes "thumb" ∷ codes ":" ∷ flag_word x.thumb
    ∷ codes "}" ∷ []

widths_faithful : Faithful (λ _. (Unit {0} × Unit {0}) × (Unit {0} × Unit {0})) (λ x. flags_written (from_flags x)) widths
widths_faithful =
    both_faithful
    (both_faithful
    (after_faithful (CloseBracket ∷ Comma ∷ S ∷ Colon ∷ []) (omega arith, (omega arith, (omega arith, (omega arith, tt)))) flag_faithful)
    (after_faithful (Comma ∷ Wide ∷ Colon ∷ []) (omega arith, (omega arith, (omega arith, tt))) flag_faithful))
    (both_faithful
    (after_faithful (Comma ∷ ThumbW ∷ Colon ∷ []) (omega arith, (omega arith, (omega arith, tt))) flag_faithful)
    (before_faithful (CloseBrace ∷ []) (omega arith, tt) (after_faithful (Comma ∷ Thumb ∷ Colon ∷ []) (omega arith, (omega arith, (omega arith, tt))) flag_faithful)))

flags_faithful : Faithful (λ _. (Unit {0} × Unit {0}) × (Unit {0} × Unit {0})) flags_written flags
flags_faithful = record {
  sound = λ ts x rest e.
      let one = via_sound from_flags widths ts x rest e in
      let part = widths_faithful.sound ts one.0 rest one.1.0 in
      (part.0, part.1 ∙ ap (λ y. flags_written y ++ rest) one.1.1);
  complete = λ x can rest.
      ap (λ o. then o (λ y. Ok (from_flags y.0, y.1))) (widths_faithful.complete ((x.s, x.wide), (x.thumb_w, x.thumb)) can rest);
}

-- what follows the word `Instruction`
abbrev body : Fields → Tokens
body x =
    (codes "{" ∷ codes "condition" ∷ codes ":" ∷ condition_word x.0.0
    ∷ codes "," ∷ codes "opcode" ∷ codes ":" ∷ opcode_written x.0.1)
    ++ ((codes "," ∷ codes "operands" ∷ codes ":" ∷ codes "[" ∷ operands_written x.1.0)
    ++ flags_written x.1.1)

abbrev FieldsHeld : Fields → Type 0
FieldsHeld x =
    (Unit {0} × AllHeld (opcode_variant x.0.1).arguments)
    × ((OperandsHeld x.1.0 × (length x.1.0 ≡ 4)) × ((Unit {0} × Unit {0}) × (Unit {0} × Unit {0})))

fields_faithful : Faithful FieldsHeld body fields
fields_faithful =
    both_faithful
    (both_faithful
    (after_faithful (OpenBrace ∷ Condition ∷ Colon ∷ []) (omega arith, (omega arith, (omega arith, tt))) condition_faithful)
    (after_faithful (Comma ∷ OpcodeField ∷ Colon ∷ []) (omega arith, (omega arith, (omega arith, tt))) opcode_faithful))
    (both_faithful
    (after_faithful (Comma ∷ Operands ∷ Colon ∷ OpenBracket ∷ []) (omega arith, (omega arith, (omega arith, (omega arith, tt)))) operands_faithful)
    flags_faithful)

body_written : (x : Fields) → codes "Instruction" ∷ body x ≡ written (from_fields x)
body_written x = refl

pub instruction_sound : (ts : Tokens) (i : Instruction) (rest : Tokens) → instruction ts ≡ Ok (i, rest) → CanBe i × (codes "Instruction" ∷ ts ≡ written i ++ rest)
instruction_sound ts i rest e =
    let one = via_sound from_fields fields ts i rest e in
    let part = fields_faithful.sound ts one.0 rest one.1.0 in
    let can : CanBe (from_fields one.0) = record { opcode = part.0.0.1; operands = part.0.1.0.0; four = part.0.1.0.1 } in (
      subst CanBe one.1.1 can,
      ap (λ l. codes "Instruction" ∷ l) part.1 ∙ ap (λ l. l ++ rest) (body_written one.0) ∙ ap (λ j. written j ++ rest) one.1.1,
    )

abbrev fields_of : Instruction → Fields
fields_of i = ((i.condition, i.opcode), (i.operands, record { s = i.s; wide = i.wide; thumb_w = i.thumb_w; thumb = i.thumb }))

pub instruction_complete : (i : Instruction) → CanBe i → (rest : Tokens) → instruction (others (written i) ++ rest) ≡ Ok (i, rest)
instruction_complete i can rest =
    ap (λ o. then o (λ x. Ok (from_fields x.0, x.1))) (fields_faithful.complete (fields_of i) ((tt, can.opcode), ((can.operands, can.four), ((tt, tt), (tt, tt)))) rest)
