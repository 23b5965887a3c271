-- The bytes of a line, of a register and of a list. Assumes nothing.
use Rattle.std.proofs.Common.{◌≡◌, ℕ, List, [], ◌∷◌, ◌++◌, map, codes, refl, ap, ◌∙◌, ap₂, append_assoc, append-nil}
use Rattle.armv7.specs.declared.reg.Reg.{Reg}
use Rattle.armv7.specs.Registers.{reg_name}
use Rattle.sink.specs.declared.sink.Edge.TheVariants.{End}
use Rattle.sink.specs.declared.sink.Span.TheVariants.{Opcode, Register}
use Rattle.sink.specs.Items.{Item, edge, text_items, bytes}
use Rattle.sink.proofs.Rows.{bytes_append, bytes_text}
use Rattle.visitor.specs.Texts.{reg_items, followed, joined, all_regs, chosen, list_items}
use Rattle.lines.specs.Lines.{behind_word, line_of}
use Rattle.blocks.specs.Grammar.{list_rest, list_text}
use Rattle.blocks.proofs.Masks.{the_regs}

-- a text in a span
spanned_bytes : (t : List ℕ) (is : List Item) → bytes is ≡ [] → bytes (text_items t ++ is) ≡ t
spanned_bytes t is e = bytes_append (text_items t) is ∙ ap₂ ◌++◌ (bytes_text t) e ∙ append-nil t

pub reg_bytes : (r : Reg) → bytes (reg_items r) ≡ reg_name r
reg_bytes r = spanned_bytes (reg_name r) (edge End Register ∷ []) refl

pub line_bytes : (word : List ℕ) (rows : List (List Item)) → bytes (line_of (record { word = word; rows = rows })) ≡ word ++ bytes (behind_word rows)
line_bytes word rows =
    bytes_append (text_items word ++ edge End Opcode ∷ []) (behind_word rows)
    ∙ ap (λ t. t ++ bytes (behind_word rows)) (spanned_bytes word (edge End Opcode ∷ []) refl)

rest_bytes : (rs : List Reg) → bytes (followed (map reg_items rs) ++ text_items (codes "}")) ≡ list_rest rs
rest_bytes [] = refl
rest_bytes (r ∷ rs) =
    ap (λ t. 44 ∷ 32 ∷ t)
    (ap bytes (append_assoc (reg_items r) (followed (map reg_items rs)) (text_items (codes "}")))
    ∙ bytes_append (reg_items r) (followed (map reg_items rs) ++ text_items (codes "}"))
    ∙ ap₂ ◌++◌ (reg_bytes r) (rest_bytes rs))

joined_bytes : (rs : List Reg) → bytes (text_items (codes "{") ++ (joined (map reg_items rs) ++ text_items (codes "}"))) ≡ list_text rs
joined_bytes [] = refl
joined_bytes (r ∷ rs) =
    ap (λ t. 123 ∷ t)
    (ap bytes (append_assoc (reg_items r) (followed (map reg_items rs)) (text_items (codes "}")))
    ∙ bytes_append (reg_items r) (followed (map reg_items rs) ++ text_items (codes "}"))
    ∙ ap₂ ◌++◌ (reg_bytes r) (rest_bytes rs))

pub list_bytes : (mask : ℕ) → bytes (list_items mask) ≡ list_text (the_regs mask)
unfolding the_regs
list_bytes mask = joined_bytes (chosen all_regs mask)
