use Rattle.std.proofs.Common.{◌≡◌, None, ◌∙◌}
use Rattle.armv7.specs.declared.instruction.Instruction.{Instruction}
use Rattle.lines.specs.Admission.{refused}
use Rattle.lines.specs.Lines.{parts, behind_word, line}
use Rattle.blocks.proofs.Bounds.{lines_bounded}
use Rattle.cells.specs.declared.cell.Ink.TheVariants.{Plain}
use Rattle.cells.specs.InkedLines.{InkedLine}
use Rattle.cells.proofs.Behind.{no_opcode_line}
use Rattle.cells.proofs.Inked.{inked_bytes, inked_word, inked_name, settled, printed_part, printed_whole}
use Rattle.cells.proofs.Registers.{other_inks}
use Rattle.cells.proofs.lines_are_inked.Goals as goal

inked_line : (i : Instruction) → refused i ≡ None → InkedLine i
unfolding line
inked_line i h = record {
  bytes = inked_bytes Plain (line i);
  word = inked_word (parts i).word (behind_word (parts i).rows);
  no_opcode_behind = other_inks Plain (behind_word (parts i).rows) (λ e. cc) (no_opcode_line i);
  plain_again = (settled (lines_bounded i h).nested).plain;
}

pub returns : goal.returns
returns c = record {
  inked_lines = record {
    inks = inked_line;
    names = inked_name;
    whole = λ i h s t plain p. let a = printed_whole (line i) s t plain p in record { cells = a.0; plain_again = a.1 ∙ (inked_line i h).plain_again };
    part = λ i h s t plain f p. printed_part (line i) s t plain _ p;
  };
}
