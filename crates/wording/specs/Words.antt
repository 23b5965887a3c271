-- What the programs say of a refusal, of a block transfer and of a whole record. Assumes nothing.
use Rattle.std.specs.Prelude.{ℕ, ◌/◌, ◌%◌, ◌^◌, Bool, true, false, ◌&&◌, ◌==◌, nat_lt, nat_le, if◌then◌else◌, List, [], ◌++◌, flat_map, codes, decimal, encode_utf8}
use Rattle.armv7.specs.Faults.{refusal, fault_word, no_operand}
use Rattle.armv7.specs.Registers.{reg_number, reg_name}
use Rattle.armv7.specs.declared.fault.Fault.{Fault}
use Rattle.armv7.specs.declared.reg.Reg.{Reg}
use Rattle.visitor.specs.Texts.{all_regs}
use Rattle.blocks.specs.declared.fields.Sheet.{Sheet}
use Rattle.wording.specs.declared.totals.Totals.{Totals}

-- bytes as characters: each is the character of its number
abbrev pub characters : List ℕ → List ℕ
characters bs = flat_map encode_utf8 bs

-- which operand a refusal is about, if it is about one
abbrev pub place_words : ℕ → List ℕ
place_words p = if nat_lt p no_operand then codes ", operand " ++ decimal p else []

-- a refusal's number and word, and the place where it is about an operand
abbrev pub refusal_words : Fault → List ℕ
refusal_words f = decimal (refusal f).number ++ (codes ", " ++ (characters (fault_word f) ++ place_words (refusal f).place))

-- is the register's bit set?
abbrev pub holds : ℕ → Reg → Bool
holds mask r = mask / 2 ^ reg_number r % 2 == 1

-- a register behind a space, if its bit is set
abbrev pub listed : ℕ → Reg → List ℕ
listed mask r = if holds mask r then codes " " ++ characters (reg_name r) else []

-- the registers whose bits are set, from bit 0 up
abbrev pub registers_words : ℕ → List ℕ
registers_words mask = if mask == 0 then codes " nothing" else flat_map (listed mask) all_regs

abbrev pub way : Bool → List ℕ
way load = if load then codes "loads" else codes "stores"

-- where the address goes, and when
abbrev pub direction : Bool → Bool → List ℕ
direction true false = codes "upwards, after each"
direction true true = codes "upwards, before each"
direction false false = codes "downwards, after each"
direction false true = codes "downwards, before each"

abbrev pub base_words : Bool → List ℕ
base_words wback = if wback then codes ", base is changed" else codes ", base stays"

-- with the user flag a load of the program counter returns from an exception
abbrev pub returns : Sheet → Bool
returns s = s.load && nat_le 32768 s.mask

abbrev pub user_words : Sheet → List ℕ
user_words s = if s.user then (if returns s then codes ", status restored" else codes ", registers of user mode") else []

-- load or store, the registers, the base, the direction and the write-back
abbrev pub transfer_words : Sheet → List ℕ
transfer_words s =
    way s.load
    ++ (registers_words s.mask
    ++ (codes "; base "
    ++ (characters (reg_name s.base) ++ (codes ", " ++ (direction s.add s.pre ++ (base_words s.wback ++ user_words s))))))

-- how many calls were printed, were gaps, were refused and were not read
abbrev pub totals_words : Totals → List ℕ
totals_words t =
    decimal t.printed
    ++ (codes " printed, "
    ++ (decimal t.gaps ++ (codes " gaps, " ++ (decimal t.refused ++ (codes " refused, " ++ (decimal t.misread ++ codes " not read"))))))
