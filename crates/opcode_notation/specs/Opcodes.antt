-- The reader on tokens: opcodes. Assumes nothing.
use Rattle.std.specs.Prelude.{ℕ, Bool, List, [], ◌∷◌, Some, None, Ok, codes, Option}
use Rattle.opcode.specs.declared.Opcode.{Opcode}
use Rattle.opcode.specs.declared.Opcode.TheVariants.{Invalid, POP, PUSH, B, BL, BLX, BX, BXJ, AND, EOR, SUB, RSB, ADD, ADC, SBC, RSC, TST, TEQ, CMP, CMN, ORR, MOV, BIC, MVN, LSL, LSR, ASR, RRX, ROR, ADR, MSR, MRS, CLZ, LDREXH, STREXH, LDREXB, STREXB, LDREXD, STREXD, LDREX, STREX, LDM, STM, LDR, STR, LDRH, STRH, LDRB, STRB, LDRSH, LDRSHT, LDRSB, LDRSBT, STRD, LDRD, LDC, LDCL, LDC2, LDC2L, STC, STCL, STC2, STC2L, MCRR2, MCR2, MRRC2, MCRR, MRRC, MRC2, CDP2, SRS, RFE, LDRT, STRT, LDRHT, STRHT, LDRBT, STRBT, SWP, SWPB, MUL, MLA, UMAAL, MLS, UMULL, UMLAL, SMULL, SMUL, SMLA, SMLAL, SMLAL_halfword, SMAL, SMLAW, ERET, BKPT, HVC, SMC, MOVT, QDSUB, QDADD, QSUB, QADD, TBB, TBH, UDF, SVC, WFE, WFI, SEV, CSDB, YIELD, HINT, NOP, LEAVEX, ENTERX, CLREX, DSB, DMB, ISB, SXTH, UXTH, SXTB16, UXTB16, SXTB, UXTB, SXTAH, UXTAH, SXTAB16, UXTAB16, SXTAB, UXTAB, CBZ, CBNZ, SETEND, CPS, CPS_modeonly, REV, REV16, REVSH, IT, PKHTB, PKHBT, ORN, SSAT, SSAT16, SBFX, USAT, USAT16, UBFX, BFI, BFC, DBG, PLD, PLI, RBIT, SEL, SADD16, QADD16, SHADD16, SASX, QASX, SHASX, SSAX, QSAX, SHSAX, SSUB16, QSUB16, SHSUB16, SADD8, QADD8, SHADD8, SSUB8, QSUB8, SHSUB8, UADD16, UQADD16, UHADD16, UASX, UQASX, UHASX, USAX, UQSAX, UHSAX, USUB16, UQSUB16, UHSUB16, UADD8, UQADD8, UHADD8, USUB8, UQSUB8, UHSUB8, SMLSD, SMMLA, SMMLS, USADA8, USAD8, SMLAD, SMUSD, SMMUL, SMULW, SMUAD, SDIV, UDIV, SMLALD, SMLSLD}
use Rattle.misreading.specs.declared.misread.Expected.TheVariants.{Opcode as an_opcode, Code as a_code}
use Rattle.notation.specs.Parsing.{Parser, Table, then, taken, row, via, pair, bracketed, number, flag}
use Rattle.notation.specs.Tokens.{first, others}
use Rattle.opcode_notation.specs.declared.form.OneFlag.{OneFlag}
use Rattle.opcode_notation.specs.declared.form.OneFlag.TheVariants.{Smlaw, Cps, Smulw, Smlald, Smlsld}
use Rattle.opcode_notation.specs.declared.form.TwoFlags.{TwoFlags}
use Rattle.opcode_notation.specs.declared.form.TwoFlags.TheVariants.{Srs, Rfe, Smul, Smla, SmlalHalfword, Smal}
use Rattle.opcode_notation.specs.declared.form.FourFlags.{FourFlags}
use Rattle.opcode_notation.specs.declared.form.FourFlags.TheVariants.{Ldm, Stm}
use Rattle.opcode_notation.specs.declared.form.OneCode.{OneCode}
use Rattle.opcode_notation.specs.declared.form.OneCode.TheVariants.{Ldc, Ldcl, Ldc2, Ldc2l, Stc, Stcl, Stc2, Stc2l}
use Rattle.opcode_notation.specs.declared.form.TwoCodes.{TwoCodes}
use Rattle.opcode_notation.specs.declared.form.TwoCodes.TheVariants.{Mcrr2, Mrrc2, Mcrr, Mrrc}
use Rattle.opcode_notation.specs.declared.form.ThreeCodes.{ThreeCodes}
use Rattle.opcode_notation.specs.declared.form.ThreeCodes.TheVariants.{Mcr2, Mrc2, Cdp2}
use Rattle.opcode_notation.specs.declared.form.Form.{Form}
use Rattle.opcode_notation.specs.declared.form.Form.TheVariants.{Flag, Flags, Block, Code, Codes, Operation}

-- the opcodes that have no arguments
unfoldable pub flow : Table Opcode
flow =
    (codes "Invalid", Invalid)
    ∷ (codes "POP", POP)
    ∷ (codes "PUSH", PUSH)
    ∷ (codes "B", B)
    ∷ (codes "BL", BL)
    ∷ (codes "BLX", BLX)
    ∷ (codes "BX", BX)
    ∷ (codes "BXJ", BXJ)
    ∷ (codes "TBB", TBB)
    ∷ (codes "TBH", TBH)
    ∷ (codes "CBZ", CBZ)
    ∷ (codes "CBNZ", CBNZ)
    ∷ (codes "IT", IT)
    ∷ (codes "ERET", ERET)
    ∷ (codes "BKPT", BKPT)
    ∷ (codes "HVC", HVC)
    ∷ (codes "SMC", SMC)
    ∷ (codes "UDF", UDF)
    ∷ (codes "SVC", SVC)
    ∷ []

unfoldable pub data_words : Table Opcode
data_words =
    (codes "AND", AND)
    ∷ (codes "EOR", EOR)
    ∷ (codes "SUB", SUB)
    ∷ (codes "RSB", RSB)
    ∷ (codes "ADD", ADD)
    ∷ (codes "ADC", ADC)
    ∷ (codes "SBC", SBC)
    ∷ (codes "RSC", RSC)
    ∷ (codes "TST", TST)
    ∷ (codes "TEQ", TEQ)
    ∷ (codes "CMP", CMP)
    ∷ (codes "CMN", CMN)
    ∷ (codes "ORR", ORR)
    ∷ (codes "ORN", ORN)
    ∷ (codes "MOV", MOV)
    ∷ (codes "MOVT", MOVT)
    ∷ (codes "BIC", BIC)
    ∷ (codes "MVN", MVN)
    ∷ (codes "LSL", LSL)
    ∷ (codes "LSR", LSR)
    ∷ (codes "ASR", ASR)
    ∷ (codes "RRX", RRX)
    ∷ (codes "ROR", ROR)
    ∷ (codes "ADR", ADR)
    ∷ (codes "MSR", MSR)
    ∷ (codes "MRS", MRS)
    ∷ (codes "CLZ", CLZ)
    ∷ []

unfoldable pub memory : Table Opcode
memory =
    (codes "LDREXH", LDREXH)
    ∷ (codes "STREXH", STREXH)
    ∷ (codes "LDREXB", LDREXB)
    ∷ (codes "STREXB", STREXB)
    ∷ (codes "LDREXD", LDREXD)
    ∷ (codes "STREXD", STREXD)
    ∷ (codes "LDREX", LDREX)
    ∷ (codes "STREX", STREX)
    ∷ (codes "LDR", LDR)
    ∷ (codes "STR", STR)
    ∷ (codes "LDRH", LDRH)
    ∷ (codes "STRH", STRH)
    ∷ (codes "LDRB", LDRB)
    ∷ (codes "STRB", STRB)
    ∷ (codes "LDRSH", LDRSH)
    ∷ (codes "LDRSHT", LDRSHT)
    ∷ (codes "LDRSB", LDRSB)
    ∷ (codes "LDRSBT", LDRSBT)
    ∷ (codes "STRD", STRD)
    ∷ (codes "LDRD", LDRD)
    ∷ (codes "LDRT", LDRT)
    ∷ (codes "STRT", STRT)
    ∷ (codes "LDRHT", LDRHT)
    ∷ (codes "STRHT", STRHT)
    ∷ (codes "LDRBT", LDRBT)
    ∷ (codes "STRBT", STRBT)
    ∷ (codes "SWP", SWP)
    ∷ (codes "SWPB", SWPB)
    ∷ (codes "PLD", PLD)
    ∷ (codes "PLI", PLI)
    ∷ []

unfoldable pub multiply : Table Opcode
multiply =
    (codes "MUL", MUL)
    ∷ (codes "MLA", MLA)
    ∷ (codes "UMAAL", UMAAL)
    ∷ (codes "MLS", MLS)
    ∷ (codes "UMULL", UMULL)
    ∷ (codes "UMLAL", UMLAL)
    ∷ (codes "SMULL", SMULL)
    ∷ (codes "SMLAL", SMLAL)
    ∷ (codes "SMLSD", SMLSD)
    ∷ (codes "SMMLA", SMMLA)
    ∷ (codes "SMMLS", SMMLS)
    ∷ (codes "USADA8", USADA8)
    ∷ (codes "USAD8", USAD8)
    ∷ (codes "SMLAD", SMLAD)
    ∷ (codes "SMUSD", SMUSD)
    ∷ (codes "SMMUL", SMMUL)
    ∷ (codes "SMUAD", SMUAD)
    ∷ (codes "SDIV", SDIV)
    ∷ (codes "UDIV", UDIV)
    ∷ []

unfoldable pub bits : Table Opcode
bits =
    (codes "QDSUB", QDSUB)
    ∷ (codes "QDADD", QDADD)
    ∷ (codes "QSUB", QSUB)
    ∷ (codes "QADD", QADD)
    ∷ (codes "SSAT", SSAT)
    ∷ (codes "SSAT16", SSAT16)
    ∷ (codes "USAT", USAT)
    ∷ (codes "USAT16", USAT16)
    ∷ (codes "PKHTB", PKHTB)
    ∷ (codes "PKHBT", PKHBT)
    ∷ (codes "SBFX", SBFX)
    ∷ (codes "UBFX", UBFX)
    ∷ (codes "BFI", BFI)
    ∷ (codes "BFC", BFC)
    ∷ (codes "RBIT", RBIT)
    ∷ (codes "SEL", SEL)
    ∷ (codes "REV", REV)
    ∷ (codes "REV16", REV16)
    ∷ (codes "REVSH", REVSH)
    ∷ (codes "SXTH", SXTH)
    ∷ (codes "UXTH", UXTH)
    ∷ (codes "SXTB16", SXTB16)
    ∷ (codes "UXTB16", UXTB16)
    ∷ (codes "SXTB", SXTB)
    ∷ (codes "UXTB", UXTB)
    ∷ (codes "SXTAH", SXTAH)
    ∷ (codes "UXTAH", UXTAH)
    ∷ (codes "SXTAB16", SXTAB16)
    ∷ (codes "UXTAB16", UXTAB16)
    ∷ (codes "SXTAB", SXTAB)
    ∷ (codes "UXTAB", UXTAB)
    ∷ []

unfoldable pub system : Table Opcode
system =
    (codes "WFE", WFE)
    ∷ (codes "WFI", WFI)
    ∷ (codes "SEV", SEV)
    ∷ (codes "CSDB", CSDB)
    ∷ (codes "YIELD", YIELD)
    ∷ (codes "HINT", HINT)
    ∷ (codes "NOP", NOP)
    ∷ (codes "LEAVEX", LEAVEX)
    ∷ (codes "ENTERX", ENTERX)
    ∷ (codes "CLREX", CLREX)
    ∷ (codes "DSB", DSB)
    ∷ (codes "DMB", DMB)
    ∷ (codes "ISB", ISB)
    ∷ (codes "SETEND", SETEND)
    ∷ (codes "CPS_modeonly", CPS_modeonly)
    ∷ (codes "DBG", DBG)
    ∷ []

unfoldable pub parallel : Table Opcode
parallel =
    (codes "SADD16", SADD16)
    ∷ (codes "QADD16", QADD16)
    ∷ (codes "SHADD16", SHADD16)
    ∷ (codes "SASX", SASX)
    ∷ (codes "QASX", QASX)
    ∷ (codes "SHASX", SHASX)
    ∷ (codes "SSAX", SSAX)
    ∷ (codes "QSAX", QSAX)
    ∷ (codes "SHSAX", SHSAX)
    ∷ (codes "SSUB16", SSUB16)
    ∷ (codes "QSUB16", QSUB16)
    ∷ (codes "SHSUB16", SHSUB16)
    ∷ (codes "SADD8", SADD8)
    ∷ (codes "QADD8", QADD8)
    ∷ (codes "SHADD8", SHADD8)
    ∷ (codes "SSUB8", SSUB8)
    ∷ (codes "QSUB8", QSUB8)
    ∷ (codes "SHSUB8", SHSUB8)
    ∷ (codes "UADD16", UADD16)
    ∷ (codes "UQADD16", UQADD16)
    ∷ (codes "UHADD16", UHADD16)
    ∷ (codes "UASX", UASX)
    ∷ (codes "UQASX", UQASX)
    ∷ (codes "UHASX", UHASX)
    ∷ (codes "USAX", USAX)
    ∷ (codes "UQSAX", UQSAX)
    ∷ (codes "UHSAX", UHSAX)
    ∷ (codes "USUB16", USUB16)
    ∷ (codes "UQSUB16", UQSUB16)
    ∷ (codes "UHSUB16", UHSUB16)
    ∷ (codes "UADD8", UADD8)
    ∷ (codes "UQADD8", UQADD8)
    ∷ (codes "UHADD8", UHADD8)
    ∷ (codes "USUB8", USUB8)
    ∷ (codes "UQSUB8", UQSUB8)
    ∷ (codes "UHSUB8", UHSUB8)
    ∷ []

-- the first of two that is there
abbrev pub or_else : {X : Type 0} → Option X → Option X → Option X
or_else None o = o
or_else (Some x) o = Some x

abbrev pub plain : List ℕ → Option Opcode
plain w = or_else (row flow w) (or_else (row data_words w) (or_else (row memory w) (or_else (row multiply w) (or_else (row bits w) (or_else (row system w) (row parallel w))))))

-- the opcodes that are told more in parentheses
unfoldable pub forms : Table Form
forms =
    (codes "SMLAW", Flag Smlaw)
    ∷ (codes "CPS", Flag Cps)
    ∷ (codes "SMULW", Flag Smulw)
    ∷ (codes "SMLALD", Flag Smlald)
    ∷ (codes "SMLSLD", Flag Smlsld)
    ∷ (codes "SRS", Flags Srs)
    ∷ (codes "RFE", Flags Rfe)
    ∷ (codes "SMUL", Flags Smul)
    ∷ (codes "SMLA", Flags Smla)
    ∷ (codes "SMLAL_halfword", Flags SmlalHalfword)
    ∷ (codes "SMAL", Flags Smal)
    ∷ (codes "LDM", Block Ldm)
    ∷ (codes "STM", Block Stm)
    ∷ (codes "LDC", Code Ldc)
    ∷ (codes "LDCL", Code Ldcl)
    ∷ (codes "LDC2", Code Ldc2)
    ∷ (codes "LDC2L", Code Ldc2l)
    ∷ (codes "STC", Code Stc)
    ∷ (codes "STCL", Code Stcl)
    ∷ (codes "STC2", Code Stc2)
    ∷ (codes "STC2L", Code Stc2l)
    ∷ (codes "MCRR2", Codes Mcrr2)
    ∷ (codes "MRRC2", Codes Mrrc2)
    ∷ (codes "MCRR", Codes Mcrr)
    ∷ (codes "MRRC", Codes Mrrc)
    ∷ (codes "MCR2", Operation Mcr2)
    ∷ (codes "MRC2", Operation Mrc2)
    ∷ (codes "CDP2", Operation Cdp2)
    ∷ []

abbrev pub one_flag : OneFlag → Bool → Opcode
one_flag Smlaw a = SMLAW a
one_flag Cps a = CPS a
one_flag Smulw a = SMULW a
one_flag Smlald a = SMLALD a
one_flag Smlsld a = SMLSLD a

abbrev pub two_flags : TwoFlags → Bool → Bool → Opcode
two_flags Srs a b = SRS a b
two_flags Rfe a b = RFE a b
two_flags Smul a b = SMUL a b
two_flags Smla a b = SMLA a b
two_flags SmlalHalfword a b = SMLAL_halfword a b
two_flags Smal a b = SMAL a b

abbrev pub four_flags : FourFlags → Bool → Bool → Bool → Bool → Opcode
four_flags Ldm a b c d = LDM a b c d
four_flags Stm a b c d = STM a b c d

abbrev pub one_code : OneCode → ℕ → Opcode
one_code Ldc a = LDC a
one_code Ldcl a = LDCL a
one_code Ldc2 a = LDC2 a
one_code Ldc2l a = LDC2L a
one_code Stc a = STC a
one_code Stcl a = STCL a
one_code Stc2 a = STC2 a
one_code Stc2l a = STC2L a

abbrev pub two_codes : TwoCodes → ℕ → ℕ → Opcode
two_codes Mcrr2 a b = MCRR2 a b
two_codes Mrrc2 a b = MRRC2 a b
two_codes Mcrr a b = MCRR a b
two_codes Mrrc a b = MRRC a b

abbrev pub three_codes : ThreeCodes → ℕ → ℕ → ℕ → Opcode
three_codes Mcr2 a b c = MCR2 a b c
three_codes Mrc2 a b c = MRC2 a b c
three_codes Cdp2 a b c = CDP2 a b c

abbrev pub code : Parser ℕ
code = number a_code 255

abbrev pub opcode_with : Form → Parser Opcode
opcode_with (Flag f) = via (λ x. one_flag f x) (bracketed flag)
opcode_with (Flags f) = via (λ x. two_flags f x.0 x.1) (bracketed (pair flag flag))
opcode_with (Block f) = via (λ x. four_flags f x.0.0 x.0.1 x.1.0 x.1.1) (bracketed (pair (pair flag flag) (pair flag flag)))
opcode_with (Code f) = via (λ x. one_code f x) (bracketed code)
opcode_with (Codes f) = via (λ x. two_codes f x.0 x.1) (bracketed (pair code code))
opcode_with (Operation f) = via (λ x. three_codes f x.0.0 x.0.1 x.1) (bracketed (pair (pair code code) code))

-- where there is one, what is made of it, and else another
abbrev pub either : {X Y : Type 0} → Option X → (X → Y) → Y → Y
either None f y = y
either (Some x) f y = f x

abbrev pub opcode : Parser Opcode
opcode ts =
    either (plain (first ts)) (λ o. Ok (o, others ts))
    (then (taken an_opcode (row forms (first ts)) ts) (λ f. opcode_with f.0 f.1))
