use Rattle.std.proofs.Common.{◌++◌, map, codes}
use Rattle.sink.specs.Items.{text_items}
use Rattle.sink.proofs.Chain.{both, stop}
use Rattle.visitor.specs.Texts.{reg_items, joined, chosen, all_regs}
use Rattle.text.proofs.list.write_list.Goals as goal

pub returns-in_err-write_text : goal.returns-in_err-write_text
returns-in_err-write_text g c =
    let sink = g.T.DisplaySink.sink in
    record { printed = stop sink (text_items (codes "{")) ((joined (map reg_items (chosen all_regs c.args.mask))) ++ (text_items (codes "}"))) c.from_residual.result c.in_err-write_text.field-0.0 c.in_err-write_text.ensures.printed c.from_residual.ensures.1 }

pub returns-in_err-write_chosen : goal.returns-in_err-write_chosen
returns-in_err-write_chosen g c =
    let sink = g.T.DisplaySink.sink in
    record {
      printed = both sink (text_items (codes "{")) _ c.in_ok-write_text.ensures.printed
          (stop sink (joined (map reg_items (chosen all_regs c.args.mask))) (text_items (codes "}")) c.from_residual-in_err-write_chosen.result c.in_err-write_chosen.field-0.0 c.in_err-write_chosen.ensures c.from_residual-in_err-write_chosen.ensures.1);
    }

pub returns : goal.returns
returns g c =
    let sink = g.T.DisplaySink.sink in
    record {
      printed = both sink (text_items (codes "{")) _ c.in_ok-write_text.ensures.printed
          (both sink (joined (map reg_items (chosen all_regs c.args.mask))) _ c.in_ok-write_chosen.ensures c.write_text-2.ensures.printed);
    }
