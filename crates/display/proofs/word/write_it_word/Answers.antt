use Rattle.display.proofs.Words.{in_word, in_word_stop}
use Rattle.display.proofs.word.write_it_word.Goals as goal

pub returns-in_err-write_it_mnemonic : goal.returns-in_err-write_it_mnemonic
returns-in_err-write_it_mnemonic g c =
    let start = c.span_start_opcode.ensures in
    record { printed = in_word_stop g.T.DisplaySink.sink _ c.from_residual.result c.in_err-write_it_mnemonic.field-0.0 start.marked c.in_err-write_it_mnemonic.ensures.printed c.from_residual.ensures.1 }

pub returns : goal.returns
returns g c =
    let start = c.span_start_opcode.ensures in
    let end = c.span_end_opcode.ensures in
    record { printed = in_word g.T.DisplaySink.sink _ start.marked c.in_ok-write_it_mnemonic.ensures.printed end.marked }
