use Rattle.std.proofs.Common.{List, [], ◌∷◌, codes, refl, lit≤}
use Rattle.armv7.specs.declared.reg.Reg.{Reg}
use Rattle.armv7.specs.declared.reg.Reg.TheVariants.{R0, R4, R9, R13, R15}
use Rattle.blocks.specs.Grammar.{InOrder, bits, list_text, Listed, stack_line, transfer_line}
use Rattle.blocks.proofs.worked_sheets_hold.Goals as goal

listed : (regs : List Reg) → InOrder 0 regs → Listed (list_text regs) (bits regs)
listed regs o = record { regs = regs; order = o; stands = refl; written = refl }

two : Listed (codes "{r4, pc}") 0x8010
two = listed (R4 ∷ R15 ∷ []) (lit≤ tt, (lit≤ tt, tt))

pub returns : goal.returns
returns c = record {
  worked_sheets = record {
    pop_two = stack_line (record { add = refl; pre = refl; base = refl; wback = refl; user = refl; list = _; listed = two; written = refl });
    same_as_ldm = transfer_line (record { list = _; listed = two; written = refl });
    push_none = stack_line (record { add = refl; pre = refl; base = refl; wback = refl; user = refl; list = _; listed = listed [] tt; written = refl });
    store_user = transfer_line (record { list = _; listed = listed (R0 ∷ R9 ∷ []) (lit≤ tt, (lit≤ tt, tt)); written = refl });
    load_before = transfer_line (record { list = _; listed = listed (R13 ∷ []) (lit≤ tt, tt); written = refl });
  };
}
