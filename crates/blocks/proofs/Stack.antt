-- Lines of pop and push: with a list and nothing else they fit its sheet, and any other such line fits none. Assumes nothing.
use Rattle.std.proofs.Common.{◌≡◌, ℕ, ◌^◌, Bool, List, [], ◌∷◌, ◌++◌, map, pos, negsuc, Some, None, codes, sym, refl, ap, ◌∙◌, subst, append-nil, add-zero, arith}
use Rattle.std.proofs.lemmas.Bool.{false≢true, true≢false}
use Rattle.std.proofs.lemmas.Option.{none-some}
use Rattle.armv7.specs.declared.instruction.Instruction.{Instruction}
use Rattle.armv7.specs.declared.operand.Operand.{Operand}
use Rattle.armv7.specs.declared.operand.Operand.TheVariants.{Reg as One, RegWBack, RegList, RegDeref, RegShift as Shifted, RegDerefPostindexRegShift, RegDerefPreindexRegShift, RegDerefPostindexOffset, RegDerefPreindexOffset, RegDerefPostindexReg, RegDerefPreindexReg, Imm12, Imm32, BranchOffset, BranchThumbOffset, Coprocessor, CoprocOption, CReg as Control, BankedReg, BankedSPSR, StatusRegMask as Fields, APSR, SPSR, CPSR, Nothing}
use Rattle.armv7.specs.declared.reg.Reg.{Reg}
use Rattle.armv7.specs.Registers.{reg_name, reg_number}
use Rattle.armv7.specs.Shifts.{shift_fields, shift_word}
use Rattle.sink.specs.Items.{Item, bytes}
use Rattle.sink.proofs.Rows.{bytes_append}
use Rattle.visitor.specs.Operands.{operand_items}
use Rattle.visitor.specs.Texts.{followed, list_items}
use Rattle.lines.specs.Admission.{reached_refused}
use Rattle.lines.specs.Operands.{reached}
use Rattle.blocks.specs.declared.fields.Sheet.{Sheet}
use Rattle.blocks.specs.Grammar.{Word, letters, word, list_text, Listed, stack_name, transfer, Fits, stack_line, transfer_line}
use Rattle.blocks.specs.Sheets.{low, stack_sheet, list_sheet}
use Rattle.blocks.proofs.Exact.{Exactly, exactly_one, exactly_none}
use Rattle.blocks.proofs.Lists.{list_read}
use Rattle.blocks.proofs.Masks.{the_regs, regs_order, regs_stand}
use Rattle.blocks.proofs.OneSheet.{is_transfer, not_transfer}
use Rattle.blocks.proofs.Printed.{line_bytes, list_bytes}
use Rattle.blocks.proofs.Split.{split, same_rest, never_empty, Stops, Plain}
use Rattle.blocks.proofs.Words.{plain_words, one_word}
use Rattle.blocks.proofs.Unbraced.{brace, brace_list, Unbraced, unbraced_append, unbraced_reg, unbraced_banked, unbraced_status, unbraced_shift, unbraced_byte, unbraced_span}

abbrev pub stack_word : Bool → Instruction → Word
stack_word load i = record { name = stack_name load; s = i.s; condition = i.condition; w = i.thumb_w }

pub listed_mask : (mask : ℕ) → Listed (bytes (list_items mask)) (low mask)
listed_mask mask = record { regs = the_regs mask; order = regs_order mask; stands = regs_stand mask; written = list_bytes mask }

pub listed_one : (r : Reg) → Listed (codes "{" ++ (reg_name r ++ codes "}")) (2 ^ reg_number r)
listed_one r = record { regs = r ∷ []; order = (omega arith, tt); stands = sym (add-zero (2 ^ reg_number r)); written = refl }

stack_fits : (load : Bool) (mask : ℕ) (i : Instruction) {b : List ℕ} (list : List ℕ) → Listed list mask → b ≡ letters (stack_word load i) ++ (codes " " ++ list) → Fits b (stack_sheet load mask i)
stack_fits load mask i list h e = stack_line (record {
  add = refl;
  pre = refl;
  base = refl;
  wback = refl;
  user = refl;
  list = list;
  listed = h;
  written = e;
})

-- a list and nothing else; its row is a variable, since it computes to as many forms as there are masks
pub listed_exact : (load : Bool) (i : Instruction) (mask : ℕ) (row : List Item) → Listed (bytes row) mask → Exactly (record { word = letters (stack_word load i); rows = row ∷ [] }) (Some (stack_sheet load mask i))
listed_exact load i mask row h =
    exactly_one
    (stack_fits load mask i (bytes row) h
    (line_bytes (letters (stack_word load i)) (row ∷ []) ∙ ap (λ l. letters (stack_word load i) ++ (32 ∷ bytes l)) (append-nil row)))

-- behind the word no space and list
no_list : (load : Bool) (i : Instruction) (x : List ℕ) → Stops Plain x → ((rs : List Reg) → x ≡ 32 ∷ list_text rs → ⊥) → (t : Sheet) → Fits (letters (stack_word load i) ++ x) t → ⊥
no_list load i x stops n t (stack_line f) =
    let r = split Plain (letters (stack_word load i)) (letters (word (stack_name t.load) t)) x (32 ∷ f.list) (plain_words (stack_word load i)) (plain_words (word (stack_name t.load) t)) stops false≢true f.written in
    n f.listed.regs (r.1 ∙ ap (λ l. 32 ∷ l) f.listed.written)
no_list load i x stops n t (transfer_line f) =
    let v : Word = word (transfer t.load t.add t.pre) t in
    let r = split Plain (letters (stack_word load i)) (letters v) x _ (plain_words (stack_word load i)) (plain_words v) stops false≢true f.written in
    false≢true (sym (not_transfer load) ∙ ap (λ u. is_transfer u.name) (one_word (stack_word load i) v r.0))

unbraced_none : (load : Bool) (i : Instruction) (is : List Item) (rows : List (List Item)) → Unbraced is → Exactly (record { word = letters (stack_word load i); rows = is ∷ rows }) None
unbraced_none load i is rows u =
    exactly_none
    (λ t f. no_list load i (32 ∷ bytes (is ++ followed rows)) false≢true
    (λ rs e. true≢false (sym (brace_list rs) ∙ sym (ap brace (same_rest e)) ∙ u.otherwise (followed rows)))
    t (subst (λ b. Fits b t) (line_bytes (letters (stack_word load i)) (is ∷ rows)) f))

-- the line of these operands, which are not refused, and the sheet that it fits
abbrev pub Line : Bool → Instruction → Operand → Operand → List Operand → Type 0
Line load i o p os =
    reached_refused 0 (o ∷ p ∷ os) ≡ None
    → Exactly (record { word = letters (stack_word load i); rows = map operand_items (reached (o ∷ p ∷ os)) })
    (list_sheet load o p i)

-- a list with another operand behind it
list_and_more : (load : Bool) (i : Instruction) (mask : ℕ) (is : List Item) → is ≡ list_items mask → (r : List Item) (rows : List (List Item)) → Exactly (record { word = letters (stack_word load i); rows = is ∷ r ∷ rows }) None
list_and_more load i mask is e r rows =
    exactly_none
    (λ t f. no_list load i (32 ∷ bytes (is ++ followed (r ∷ rows))) false≢true
    (λ rs q. never_empty (list_read rs (the_regs mask) [] (bytes (followed (r ∷ rows))) (append-nil (list_text rs) ∙ sym (same_rest q) ∙ whole)).1)
    t (subst (λ b. Fits b t) (line_bytes (letters (stack_word load i)) (is ∷ r ∷ rows)) f))
  where
    whole : bytes (is ++ followed (r ∷ rows)) ≡ list_text (the_regs mask) ++ bytes (followed (r ∷ rows))
    whole = bytes_append is (followed (r ∷ rows)) ∙ ap (λ l. l ++ bytes (followed (r ∷ rows))) (ap bytes e ∙ list_bytes mask)

no_operands : (load : Bool) (i : Instruction) → Exactly (record { word = letters (stack_word load i); rows = [] }) None
no_operands load i =
    exactly_none (λ t f. no_list load i [] tt (λ rs q. never_empty q) t (subst (λ b. Fits b t) (line_bytes (letters (stack_word load i)) []) f))

pub stack_exact : (load : Bool) (i : Instruction) (o p : Operand) (os : List Operand) → Line load i o p os
stack_exact load i (One r) p os h = unbraced_none load i _ _ (unbraced_reg r)
stack_exact load i (RegWBack r w) p os h = unbraced_none load i _ _ (unbraced_append _ (unbraced_reg r))
stack_exact load i (RegList m) Nothing os h = listed_exact load i (low m) (list_items m) (listed_mask m)
stack_exact load i (RegList m) p os h = list_and_more load i m (list_items m) refl (operand_items p) (map operand_items (reached os))
stack_exact load i (RegDeref r) p os h = unbraced_none load i _ _ (unbraced_byte refl)
stack_exact load i (Shifted s) p os h = unbraced_none load i _ _ (unbraced_shift (shift_fields (shift_word s)))
stack_exact load i (RegDerefPostindexRegShift r s a w) p os h = unbraced_none load i _ _ (unbraced_byte refl)
stack_exact load i (RegDerefPreindexRegShift r s a w) p os h = unbraced_none load i _ _ (unbraced_byte refl)
stack_exact load i (RegDerefPostindexOffset r n a w) p os h = unbraced_none load i _ _ (unbraced_byte refl)
stack_exact load i (RegDerefPreindexOffset r n a w) p os h = unbraced_none load i _ _ (unbraced_byte refl)
stack_exact load i (RegDerefPostindexReg r o a w) p os h = unbraced_none load i _ _ (unbraced_byte refl)
stack_exact load i (RegDerefPreindexReg r o a w) p os h = unbraced_none load i _ _ (unbraced_byte refl)
stack_exact load i (Imm12 n) p os h = unbraced_none load i _ _ (unbraced_byte refl)
stack_exact load i (Imm32 n) p os h = unbraced_none load i _ _ (unbraced_byte refl)
stack_exact load i (BranchOffset (pos n)) p os h = unbraced_none load i _ _ (unbraced_byte refl)
stack_exact load i (BranchOffset (negsuc n)) p os h = unbraced_none load i _ _ (unbraced_byte refl)
stack_exact load i (BranchThumbOffset (pos n)) p os h = unbraced_none load i _ _ (unbraced_byte refl)
stack_exact load i (BranchThumbOffset (negsuc n)) p os h = unbraced_none load i _ _ (unbraced_byte refl)
stack_exact load i (Coprocessor n) p os h = absurd (none-some _ (sym h))
stack_exact load i (CoprocOption n) p os h = unbraced_none load i _ _ (record { otherwise = λ x. refl })
stack_exact load i (Control c) p os h = unbraced_none load i _ _ (unbraced_span refl)
stack_exact load i (BankedReg b r) p os h = unbraced_none load i _ _ (unbraced_banked r _)
stack_exact load i (BankedSPSR b) p os h = unbraced_none load i _ _ (unbraced_span refl)
stack_exact load i (Fields m) p os h = unbraced_none load i _ _ (unbraced_status m)
stack_exact load i APSR p os h = unbraced_none load i _ _ (unbraced_span refl)
stack_exact load i SPSR p os h = unbraced_none load i _ _ (unbraced_span refl)
stack_exact load i CPSR p os h = unbraced_none load i _ _ (unbraced_span refl)
stack_exact load i Nothing p os h = no_operands load i
