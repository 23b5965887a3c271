use Rattle.visitor.proofs.Pieces.{texts, text_stop}
use Rattle.lines.specs.Forms.{suffix_text}
use Rattle.display.proofs.word.write_it_mnemonic.Goals as goal

pub returns-in_err-write_text : goal.returns-in_err-write_text
returns-in_err-write_text g c = record { printed = text_stop g.T.DisplaySink.sink c.args.name.now _ c.from_residual.result c.in_err-write_text.field-0.0 c.in_err-write_text.ensures.printed c.from_residual.ensures.1 }

pub returns-in_err-write_suffix : goal.returns-in_err-write_suffix
returns-in_err-write_suffix g c =
    let sink = g.T.DisplaySink.sink in
    let r = c.from_residual-in_err-write_suffix in
    record {
      printed = texts sink c.args.name.now _ c.in_ok-write_text.ensures.printed
          (text_stop sink (suffix_text c.args.suffix) _ r.result c.in_err-write_suffix.field-0.0 c.in_err-write_suffix.ensures.printed r.ensures.1);
    }

pub returns : goal.returns
returns g c =
    let sink = g.T.DisplaySink.sink in
    record {
      printed = texts sink c.args.name.now _ c.in_ok-write_text.ensures.printed
          (texts sink (suffix_text c.args.suffix) _ c.in_ok-write_suffix.ensures.printed c.write_it_letters.ensures.printed);
    }
