-- What the table of opcodes says of every mnemonic and kind. Assumes nothing.
use Rattle.std.proofs.Common.{◌≡◌, ℕ, ◌+◌, ◌*◌, Bool, true, false, not, ◌&&◌, ◌||◌, eqb, leb, List, [], ◌∷◌, length, codes, arith}
use Rattle.kind.specs.declared.Kind.{Kind}
use Rattle.kind.specs.declared.Kind.TheVariants.{Coprocessor}
use Rattle.kind.specs.declared.Suffixes.{Suffixes}
use Rattle.kind.specs.declared.Suffixes.TheVariants.{Bare, Conditional, Full}
use Rattle.kind.specs.Kinds.{optional, kind_of}
use Rattle.opcode.specs.declared.Opcode.{Opcode}
use Rattle.opcode.specs.declared.Opcode.TheVariants.{LDM, STM, POP, PUSH}
use Rattle.opcode.specs.Names.{name_of}
use Rattle.blocks.specs.Grammar.{transfer, name_letters}
use Rattle.blocks.proofs.Rows.{Text, text}

pub name_text : (op : Opcode) → Text 7 (name_of op)
name_text op = text 7 (name_of op) (grind arith)

-- the bytes of a suffix at most
abbrev pub suffix_room : Suffixes → ℕ
suffix_room Bare = 0
suffix_room Conditional = 2
suffix_room Full = 5

-- whether a coprocessor's line has at most 18 bytes besides its operands, if a row of codes has two at most
abbrev pub codes_fit : Kind → List ℕ → Bool
codes_fit (Coprocessor c) name = leb (length name + (suffix_room c.suffixes + (1 + (4 * length (c.coprocessor ∷ optional c.second) + 4 * length (optional c.third))))) 18
codes_fit other name = true

pub all_codes_fit : (op : Opcode) → codes_fit (kind_of op) (name_of op) ≡ true
all_codes_fit op = grind arith

pub load_name : (add pre own user : Bool) → name_of (LDM add pre own user) ≡ name_letters (transfer true add pre)
load_name add pre own user = grind arith

pub store_name : (add pre own user : Bool) → name_of (STM add pre own user) ≡ name_letters (transfer false add pre)
store_name add pre own user = grind arith

-- a byte of a name differs from the byte of the front at its place
abbrev pub differs : List ℕ → List ℕ → Bool
differs [] name = false
differs (x ∷ front) [] = false
differs (x ∷ front) (b ∷ name) = not (eqb x b) || differs front name

-- a name that no name of the grammar begins with, nor it with one
abbrev pub apart : List ℕ → Bool
apart name = differs (codes "pop") name && (differs (codes "pus") name && (differs (codes "ldm") name && differs (codes "stm") name))

abbrev pub apart_by : Opcode → Bool
apart_by (LDM add pre own user) = true
apart_by (STM add pre own user) = true
apart_by POP = true
apart_by PUSH = true
apart_by other = apart (name_of other)

pub others_apart : (op : Opcode) → apart_by op ≡ true
others_apart op = grind arith
