use Rattle.std.proofs.Common.{map, ◌++◌}
use Rattle.kind.specs.Kinds.{optional}
use Rattle.sink.proofs.Chain.{both, stop}
use Rattle.visitor.specs.Operands.{operand_items}
use Rattle.visitor.specs.Texts.{followed}
use Rattle.visitor.proofs.Pieces.{renamed}
use Rattle.lines.specs.Lines.{code_row}
use Rattle.display.proofs.Behind.{codes_first, codes_around}
use Rattle.display.proofs.rows.write_coprocessor.Goals as goal

pub returns-in_err-write_codes : goal.returns-in_err-write_codes
returns-in_err-write_codes g c =
    let bs = optional c.args.codes.second in
    let os = map operand_items c.args.reached.operands.now in
    let third = map code_row (optional c.args.codes.third) in
    record {
      printed = renamed (codes_around c.args.codes.coprocessor bs os third)
          (stop g.T.DisplaySink.sink (codes_first c.args.codes.coprocessor bs) (followed os ++ followed third) c.from_residual.result c.in_err-write_codes.field-0.0 c.in_err-write_codes.ensures.printed c.from_residual.ensures.1);
    }

pub returns-in_err-write_followed : goal.returns-in_err-write_followed
returns-in_err-write_followed g c =
    let sink = g.T.DisplaySink.sink in
    let r = c.from_residual-in_err-write_followed in
    let bs = optional c.args.codes.second in
    let os = map operand_items c.args.reached.operands.now in
    record {
      printed = renamed (codes_around c.args.codes.coprocessor bs os (map code_row (optional c.args.codes.third)))
          (both sink (codes_first c.args.codes.coprocessor bs) _ c.in_ok-write_codes.ensures.printed (stop sink (followed os) _ r.result c.in_err-write_followed.field-0.0 c.in_err-write_followed.ensures.printed r.ensures.1));
    }

pub returns : goal.returns
returns g c =
    let sink = g.T.DisplaySink.sink in
    let bs = optional c.args.codes.second in
    let os = map operand_items c.args.reached.operands.now in
    record {
      printed = renamed (codes_around c.args.codes.coprocessor bs os (map code_row (optional c.args.codes.third)))
          (both sink (codes_first c.args.codes.coprocessor bs) _ c.in_ok-write_codes.ensures.printed (both sink (followed os) _ c.in_ok-write_followed.ensures.printed c.write_code.ensures.printed));
    }
