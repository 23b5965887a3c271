use Rattle.std.proofs.Common.{◌++◌, ap₂}
use Rattle.opcode.specs.Names.{name_of}
use Rattle.sink.proofs.Chain.{both, stop}
use Rattle.visitor.proofs.Pieces.{renamed}
use Rattle.lines.specs.Forms.{suffix_text}
use Rattle.lines.specs.Lines.{suffix, word_items}
use Rattle.display.proofs.inst.write_plain.Goals as goal

pub returns-in_err-write_word : goal.returns-in_err-write_word
returns-in_err-write_word g c =
    let i = c.args.instruction.now in
    let word = renamed (ap₂ (λ n x. word_items (n ++ suffix_text x)) c.name.ensures.value c.of.ensures.value) c.in_err-write_word.ensures.printed in
    record { printed = stop g.T.DisplaySink.sink (word_items (name_of i.opcode ++ suffix i)) _ c.from_residual.result c.in_err-write_word.field-0.0 word c.from_residual.ensures.1 }

pub returns : goal.returns
returns g c =
    let i = c.args.instruction.now in
    let word = renamed (ap₂ (λ n x. word_items (n ++ suffix_text x)) c.name.ensures.value c.of.ensures.value) c.in_ok-write_word.ensures.printed in
    record { printed = both g.T.DisplaySink.sink (word_items (name_of i.opcode ++ suffix i)) _ word c.write_operands.ensures.printed }
