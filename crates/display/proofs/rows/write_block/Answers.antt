use Rattle.std.proofs.Common.{◌++◌, codes, sym, append-nil}
use Rattle.sink.specs.Items.{text_items}
use Rattle.sink.proofs.Chain.{both, stop}
use Rattle.visitor.specs.Operands.{bang}
use Rattle.visitor.specs.Texts.{flagged, reg_items, list_items}
use Rattle.visitor.proofs.Pieces.{renamed}
use Rattle.display.proofs.rows.write_block.Goals as goal

pub returns-in_err-write_text : goal.returns-in_err-write_text
returns-in_err-write_text g c =
    let sink = g.T.DisplaySink.sink in
    record { printed = stop sink (text_items (codes " ")) _ c.from_residual.result c.in_err-write_text.field-0.0 c.in_err-write_text.ensures.printed c.from_residual.ensures.1 }

pub returns-in_err-write_reg_wback : goal.returns-in_err-write_reg_wback
returns-in_err-write_reg_wback g c =
    let sink = g.T.DisplaySink.sink in
    let base = reg_items c.args.block.base ++ text_items (bang c.args.block.wback) in
    let r = c.from_residual-in_err-write_reg_wback in
    record {
      printed = both sink (text_items (codes " ")) _ c.in_ok-write_text.ensures.printed
          (stop sink (base) _ r.result c.in_err-write_reg_wback.field-0.0 c.in_err-write_reg_wback.ensures.printed r.ensures.1);
    }

pub returns-in_err-write_text-2 : goal.returns-in_err-write_text-2
returns-in_err-write_text-2 g c =
    let sink = g.T.DisplaySink.sink in
    let base = reg_items c.args.block.base ++ text_items (bang c.args.block.wback) in
    let r = c.from_residual-in_err-write_text-2 in
    record {
      printed = both sink (text_items (codes " ")) _ c.in_ok-write_text.ensures.printed
          (both sink base _ c.in_ok-write_reg_wback.ensures.printed
          (stop sink (text_items (codes ", ")) _ r.result c.in_err-write_text-2.field-0.0 c.in_err-write_text-2.ensures.printed r.ensures.1));
    }

pub returns-in_err-write_list : goal.returns-in_err-write_list
returns-in_err-write_list g c =
    let sink = g.T.DisplaySink.sink in
    let base = reg_items c.args.block.base ++ text_items (bang c.args.block.wback) in
    let list = list_items c.args.block.mask in
    let caret = text_items (flagged c.args.block.user (codes "^")) in
    let r = c.from_residual-in_err-write_list in
    record {
      printed = both sink (text_items (codes " ")) _ c.in_ok-write_text.ensures.printed
          (both sink base _ c.in_ok-write_reg_wback.ensures.printed
          (both sink (text_items (codes ", ")) _ c.in_ok-write_text-2.ensures.printed
          (renamed (sym (append-nil (list ++ caret))) (stop sink (list) caret r.result c.in_err-write_list.field-0.0 c.in_err-write_list.ensures.printed r.ensures.1))));
    }

pub returns : goal.returns
returns g c =
    let sink = g.T.DisplaySink.sink in
    let base = reg_items c.args.block.base ++ text_items (bang c.args.block.wback) in
    let list = list_items c.args.block.mask in
    let caret = text_items (flagged c.args.block.user (codes "^")) in
    record {
      printed = both sink (text_items (codes " ")) _ c.in_ok-write_text.ensures.printed
          (both sink base _ c.in_ok-write_reg_wback.ensures.printed
          (both sink (text_items (codes ", ")) _ c.in_ok-write_text-2.ensures.printed
          (renamed (sym (append-nil (list ++ caret))) (both sink list caret c.in_ok-write_list.ensures.printed c.write_flagged.ensures.printed))));
    }
