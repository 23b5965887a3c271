-- The line of an instruction that is printed fits its own sheet, and no other. Assumes nothing.
use Rattle.std.proofs.Common.{◌≡◌, ℕ, ◌^◌, Bool, true, false, List, [], ◌∷◌, ◌++◌, map, Some, None, codes, Option, sym, refl, ap, ◌∙◌, subst, ap₂, append_assoc, append-nil}
use Rattle.std.proofs.lemmas.Option.{none-some}
use Rattle.armv7.specs.declared.instruction.Instruction.{Instruction}
use Rattle.armv7.specs.declared.operand.Operand.{Operand}
use Rattle.armv7.specs.declared.operand.Operand.TheVariants.{RegWBack, RegList, Imm12, Imm32}
use Rattle.armv7.specs.declared.reg.Reg.{Reg}
use Rattle.armv7.specs.Registers.{reg_name, reg_number}
use Rattle.kind.specs.declared.Kind.TheVariants.{Block}
use Rattle.kind.specs.Kinds.{kind_of}
use Rattle.opcode.specs.declared.Opcode.{Opcode}
use Rattle.opcode.specs.declared.Opcode.TheVariants.{LDM, STM, POP, PUSH, IT, CPS, SETEND}
use Rattle.opcode.specs.Names.{name_of}
use Rattle.sink.specs.declared.sink.Edge.TheVariants.{End}
use Rattle.sink.specs.declared.sink.Span.TheVariants.{Register}
use Rattle.sink.specs.Items.{Item, edge, text_items, bytes}
use Rattle.sink.proofs.Rows.{bytes_append, bytes_text}
use Rattle.visitor.specs.Operands.{operand_items, bang}
use Rattle.visitor.specs.Texts.{flagged, reg_items, list_items}
use Rattle.lines.specs.declared.alias.StackForm.{StackForm}
use Rattle.lines.specs.declared.alias.Stacked.{Stacked}
use Rattle.lines.specs.declared.alias.Stacked.TheVariants.{List as ListOf, One}
use Rattle.lines.specs.Admission.{refused, refused_by, block_refused, reached_refused}
use Rattle.lines.specs.Lines.{own_parts, stack_row, moved_parts, it_parts, cps_parts, setend_parts, parts_by, line, suffix}
use Rattle.lines.specs.Moved.{on_stack, stacked, moved_by}
use Rattle.lines.specs.Operands.{operand, two_only, four, reached}
use Rattle.blocks.specs.Grammar.{optional, name_letters, transfer, stack_name, transfer_line, Listed}
use Rattle.blocks.specs.declared.fields.Sheet.{Sheet}
use Rattle.blocks.specs.Sheets.{sheet_with, low, block_sheet, stack_sheet, list_sheet, own_sheet, mask_of, sheet_by, sheet_of, FitsOnly, OwnSheets}
use Rattle.blocks.proofs.Exact.{Exactly, exactly_one, apart_none}
use Rattle.blocks.proofs.Opcodes.{load_name, store_name, apart, others_apart}
use Rattle.blocks.proofs.Printed.{reg_bytes, line_bytes}
use Rattle.blocks.proofs.Stack.{listed_mask, listed_one, listed_exact, stack_exact}

own_none : (i : Instruction) → apart (name_of i.opcode) ≡ true → Exactly (own_parts i) None
own_none i h = apart_none (name_of i.opcode) (suffix i) _ h

one_bytes : (r : Reg) → bytes (reg_items r ++ edge End Register ∷ text_items (codes "}")) ≡ reg_name r ++ codes "}"
one_bytes r = bytes_append (reg_items r) (edge End Register ∷ text_items (codes "}")) ∙ ap (λ t. t ++ codes "}") (reg_bytes r)

listed_row : (m : Stacked) → Listed (bytes (stack_row m)) (mask_of m)
listed_row (ListOf mask) = listed_mask mask
listed_row (One r) = subst (λ t. Listed (123 ∷ t) (2 ^ reg_number r)) (sym (one_bytes r)) (listed_one r)

-- a form under another name
stacked_exact : (load : Bool) (m : Stacked) (i : Instruction) → Exactly (moved_parts (stacked (record { load = load; moved = m })) i) (Some (stack_sheet load (mask_of m) i))
stacked_exact true m i = listed_exact true i (mask_of m) (stack_row m) (listed_row m)
stacked_exact false m i = listed_exact false i (mask_of m) (stack_row m) (listed_row m)

-- base and list of a transfer, with what may stand behind them
pair_bytes : (r : Reg) (w user : Bool) (l : List Item) →
    bytes ((reg_items r ++ text_items (bang w)) ++ (text_items (codes ", ") ++ ((l ++ text_items (flagged user (codes "^"))) ++ [])))
    ≡ reg_name r ++ (optional w (codes "!") ++ (codes ", " ++ (bytes l ++ optional user (codes "^"))))
pair_bytes r w user l =
    bytes_append (reg_items r ++ text_items (bang w)) _
    ∙ ap₂ ◌++◌
    (bytes_append (reg_items r) (text_items (bang w)) ∙ ap₂ ◌++◌ (reg_bytes r) (bytes_text (bang w)))
    (ap (λ t. 44 ∷ 32 ∷ t)
    (ap bytes (append-nil (l ++ text_items (flagged user (codes "^"))))
    ∙ bytes_append l (text_items (flagged user (codes "^")))
    ∙ ap (λ t. bytes l ++ t) (bytes_text (flagged user (codes "^")))))
    ∙ append_assoc (reg_name r) (bang w) _

transfer_exact : (load add pre user : Bool) (i : Instruction) (b : Reg) (w : Bool) (mask : ℕ) (l : List Item) → Listed (bytes l) mask →
    (name : List ℕ) → name ≡ name_letters (transfer load add pre) →
    Exactly
    (record { word = name ++ suffix i; rows = (reg_items b ++ text_items (bang w)) ∷ (l ++ text_items (flagged user (codes "^"))) ∷ [] })
    (Some (sheet_with load add pre b w mask user i))
transfer_exact load add pre user i b w mask l h name e =
    exactly_one
    (transfer_line (record {
      list = bytes l;
      listed = h;
      written =
          line_bytes (name ++ suffix i) ((reg_items b ++ text_items (bang w)) ∷ (l ++ text_items (flagged user (codes "^"))) ∷ [])
          ∙ ap₂ (λ n t. (n ++ suffix i) ++ (32 ∷ t)) e (pair_bytes b w user l);
    }))

block_exact : (load add pre user : Bool) (a b : Operand) (only : Bool) (i : Instruction) → name_of i.opcode ≡ name_letters (transfer load add pre) → block_refused a b only ≡ None → Exactly (parts_by (moved_by None (Block user) a b) (Block user) i) (block_sheet load add pre user a b i)
block_exact load add pre user (RegWBack r w) (RegList mask) only i e n = transfer_exact load add pre user i r w (low mask) (list_items mask) (listed_mask mask) (name_of i.opcode) e
block_exact load add pre user a b only i e n = absurd (none-some _ (sym n))

list_exact : (load : Bool) (i : Instruction) → name_of i.opcode ≡ name_letters (stack_name load) → reached_refused 0 (four i) ≡ None → Exactly (own_parts i) (list_sheet load (operand 0 i) (operand 1 i) i)
list_exact load i e n =
    subst (λ name. Exactly (record { word = name ++ suffix i; rows = map operand_items (reached (four i)) }) (list_sheet load (operand 0 i) (operand 1 i) i)) (sym e)
    (stack_exact load i (operand 0 i) (operand 1 i) (operand 2 i ∷ operand 3 i ∷ []) n)

it_none : (a b : Operand) (i : Instruction) → apart (name_of i.opcode) ≡ true → Exactly (it_parts a b i) None
it_none (Imm32 c) (Imm32 m) i h = apart_none (name_of i.opcode) _ _ h
it_none a b i h = own_none i h

cps_none : (a b : Operand) (i : Instruction) → apart (name_of i.opcode) ≡ true → Exactly (cps_parts a b i) None
cps_none (Imm12 flags) b i h = apart_none (name_of i.opcode) _ _ h
cps_none a b i h = own_none i h

setend_none : (a : Operand) (i : Instruction) → apart (name_of i.opcode) ≡ true → Exactly (setend_parts a i) None
setend_none (Imm12 n) i h = apart_none (name_of i.opcode) _ _ h
setend_none a i h = own_none i h

own_exact : (op : Opcode) (i : Instruction) → name_of i.opcode ≡ name_of op → refused_by (kind_of op) i ≡ None → Exactly (parts_by (moved_by None (kind_of op) (operand 0 i) (operand 1 i)) (kind_of op) i) (own_sheet op i)
own_exact (LDM add pre own user) i e n = block_exact true add pre user (operand 0 i) (operand 1 i) (two_only i) i (e ∙ load_name add pre own user) n
own_exact (STM add pre own user) i e n = block_exact false add pre user (operand 0 i) (operand 1 i) (two_only i) i (e ∙ store_name add pre own user) n
own_exact POP i e n = list_exact true i e n
own_exact PUSH i e n = list_exact false i e n
own_exact IT i e n = it_none (operand 0 i) (operand 1 i) i (ap apart e ∙ others_apart IT)
own_exact (CPS disable) i e n = cps_none (operand 0 i) (operand 1 i) i (ap apart e ∙ others_apart (CPS disable))
own_exact SETEND i e n = setend_none (operand 0 i) i (ap apart e ∙ others_apart SETEND)
own_exact other i e n = apart_none (name_of i.opcode) _ _ (ap apart e ∙ others_apart other)

by_form : (o : Option StackForm) (i : Instruction) → refused i ≡ None → Exactly (parts_by (moved_by o (kind_of i.opcode) (operand 0 i) (operand 1 i)) (kind_of i.opcode) i) (sheet_by o i)
unfolding refused
by_form (Some form) i n = stacked_exact form.load form.moved i
by_form None i n = own_exact i.opcode i refl n

pub own_sheets : OwnSheets
unfolding line sheet_of
own_sheets i n t = (by_form (on_stack i) i n).fits t

pub fits_only : (i : Instruction) (o : Option Sheet) → o ≡ sheet_of i → FitsOnly i o
fits_only i o e = subst (FitsOnly i) (sym e) (own_sheets i)
