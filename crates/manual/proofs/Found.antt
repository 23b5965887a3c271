-- What is refused, and what is printed, by what the code finds. Assumes nothing.
use Rattle.std.proofs.Common.{◌≡◌, Some, None, Option, refl, ap, ap₂, ◌∙◌}
use Rattle.armv7.specs.declared.instruction.Instruction.{Instruction}
use Rattle.armv7.specs.Faults.{Refusal}
use Rattle.kind.specs.declared.Kind.{Kind}
use Rattle.kind.specs.declared.Kind.TheVariants.{Block as BlockKind}
use Rattle.kind.specs.Kinds.{kind_of}
use Rattle.opcode.specs.declared.Opcode.{Opcode}
use Rattle.opcode.specs.declared.Opcode.TheVariants.{LDM, STM}
use Rattle.lines.specs.declared.alias.StackForm.{StackForm}
use Rattle.lines.specs.declared.form.Block.{Block}
use Rattle.lines.specs.declared.form.Form.{Form}
use Rattle.lines.specs.declared.form.Form.TheVariants.{Block as Many, Stack}
use Rattle.lines.specs.Admission.{first_of, refused, refused_by}
use Rattle.lines.specs.Forms.{moved_in}
use Rattle.lines.specs.Lines.{line_of}
use Rattle.lines.specs.Moved.{Moved, moved}
use Rattle.manual.specs.Lines.{without_flag, bare, manual_parts, no_form, line_if, manual_refused, manual_line}

-- any other form moves nothing
pub nothing_moved : (f : Form) → ((form : StackForm) → f ≡ Stack form → ⊥) → ((b : Block) → f ≡ Many b → ⊥) → moved_in f ≡ None
nothing_moved (Many b) x y = absurd (y b refl)
nothing_moved (Stack form) x y = absurd (x form refl)
nothing_moved f x y = refl

-- the flag does not say how an instruction is printed
same_kind : (op : Opcode) → kind_of (without_flag op) ≡ kind_of op
same_kind (LDM add pre wback user) = refl
same_kind (STM add pre wback user) = refl
same_kind other = refl

same_by : (k : Kind) (i : Instruction) → refused_by k (bare i) ≡ refused_by k i
same_by (BlockKind user) i = refl
same_by other i = refl

-- nor what it is refused for
same_refused : (i : Instruction) → refused (bare i) ≡ refused i
unfolding refused
same_refused i = same_by (kind_of (without_flag i.opcode)) i ∙ ap (λ k. refused_by k i) (same_kind i.opcode)

module _ (i j : Instruction) (e : j ≡ bare i) where
  -- what is not admitted is refused for that
  pub refused_first : (why : Refusal) → Some why ≡ refused j → Some why ≡ manual_refused i
  unfolding manual_refused
  refused_first why r = ap (λ o. first_of o (no_form (moved (bare i)))) (r ∙ ap refused e ∙ same_refused i)

  pub refused_found : {found : Option Moved} → None ≡ refused j → found ≡ moved j → no_form found ≡ manual_refused i
  unfolding manual_refused
  refused_found r f = ap₂ (λ o m. first_of o (no_form m)) (r ∙ ap refused e ∙ same_refused i) (f ∙ ap moved e)

  pub line_found : (m : Moved) → Some m ≡ moved j → line_of (manual_parts m j) ≡ manual_line i
  unfolding manual_line
  line_found m f = ap₂ (λ o k. line_if o k) (f ∙ ap moved e) e
