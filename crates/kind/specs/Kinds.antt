-- How the instructions of an opcode are printed. Assumes nothing.
use Rattle.std.specs.Prelude.{ℕ, List, [], ◌∷◌, Some, None, Option}
use Rattle.opcode.specs.declared.Opcode.{Opcode}
use Rattle.opcode.specs.declared.Opcode.TheVariants.{LDM, STM, IT, CPS, SETEND, LDC, LDCL, LDC2, LDC2L, STC, STCL, STC2, STC2L, MCRR2, MCR2, MRRC2, MCRR, MRRC, MRC2, CDP2}
use Rattle.kind.specs.declared.Kind.{Kind}
use Rattle.kind.specs.declared.Kind.TheVariants.{Block, It, Cps, Setend, Coprocessor, Plain}
use Rattle.kind.specs.declared.Suffixes.{Suffixes}
use Rattle.kind.specs.declared.Suffixes.TheVariants.{Bare, Conditional, Full}

abbrev pub optional : Option ℕ → List ℕ
optional None = []
optional (Some n) = n ∷ []

abbrev pub coprocessor : Suffixes → ℕ → Option ℕ → Option ℕ → Kind
coprocessor suffixes a b c = Coprocessor (record { suffixes = suffixes; coprocessor = a; second = b; third = c })

abbrev pub kind_of : Opcode → Kind
kind_of (LDM add pre wback user) = Block user
kind_of (STM add pre wback user) = Block user
kind_of IT = It
kind_of (CPS disable) = Cps
kind_of SETEND = Setend
kind_of (LDC a) = coprocessor Conditional a None None
kind_of (LDCL a) = coprocessor Conditional a None None
kind_of (STC a) = coprocessor Conditional a None None
kind_of (STCL a) = coprocessor Conditional a None None
kind_of (LDC2 a) = coprocessor Bare a None None
kind_of (LDC2L a) = coprocessor Bare a None None
kind_of (STC2 a) = coprocessor Bare a None None
kind_of (STC2L a) = coprocessor Bare a None None
kind_of (MCRR2 a b) = coprocessor Bare a (Some b) None
kind_of (MRRC2 a b) = coprocessor Bare a (Some b) None
kind_of (MCRR a b) = coprocessor Full a (Some b) None
kind_of (MRRC a b) = coprocessor Full a (Some b) None
kind_of (MCR2 a b c) = coprocessor Bare a (Some b) (Some c)
kind_of (MRC2 a b c) = coprocessor Bare a (Some b) (Some c)
kind_of (CDP2 a b c) = coprocessor Bare a (Some b) (Some c)
kind_of other = Plain
