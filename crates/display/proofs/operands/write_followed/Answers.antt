use Rattle.sink.proofs.Chain.{nothing}
use Rattle.display.proofs.Followed.{past_end, comma_stop, operand_stop, more}
use Rattle.display.proofs.operands.write_followed.Goals as goal

pub loop-index-init : goal.loop-index-init
loop-index-init g c = nothing g.T.DisplaySink.sink c.args.out.now

pub returns-in_err-write_text : goal.returns-in_err-write_text
returns-in_err-write_text g c =
    record {
      printed = comma_stop g.T.DisplaySink.sink c.args.reached.operands.now c.loop-index.invariant c.args.reached.clean c.loop-index-test.true
          c.from_residual.result c.in_err-write_text.field-0.0 c.in_err-write_text.ensures.printed c.from_residual.ensures.1;
    }

pub returns-in_err-write_operand : goal.returns-in_err-write_operand
returns-in_err-write_operand g c =
    let r = c.from_residual-in_err-write_operand in
    record {
      printed = operand_stop g.T.DisplaySink.sink c.args.reached.operands.now c.loop-index.invariant c.args.reached.clean c.loop-index-test.true
          r.result c.in_err-write_operand.field-0.0 c.in_ok-write_text.ensures.printed c.in_err-write_operand.ensures.printed_or_refused r.ensures.1;
    }

pub loop-index-preserved : goal.loop-index-preserved
loop-index-preserved g c =
    more g.T.DisplaySink.sink c.args.reached.operands.now c.loop-index.invariant c.args.reached.clean c.loop-index-test.true
    c.in_ok-write_text.ensures.printed c.in_ok-write_operand.ensures.printed_or_refused

pub returns : goal.returns
returns g c = record { printed = past_end g.T.DisplaySink.sink c.args.reached.operands.now c.loop-index-test.false c.loop-index.invariant }
