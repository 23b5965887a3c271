use Rattle.std.proofs.Common.{sym, ap, ◌∙◌, rules, take, [], arith}
use Rattle.std.proofs.Output.{has_written_append, has_written_of_eq}
use Rattle.std.proofs.lemmas.List.{take_more, flat_map_more}
use Rattle.std.specs.Prelude.{flat_map}
use Rattle.armv7.specs.declared.reg.Reg.TheVariants.{R0}
use Rattle.visitor.specs.Texts.{all_regs}
use Rattle.wording.specs.Words.{listed}
use Rattle.wording.proofs.registers.RegistersDisplay.fmt.Goals as goal
use Rattle.wording.proofs.registers.RegistersDisplay.fmt.Goals.{then-holds+in_ok-write, else-holds}

pub loop-reg-preserved : goal.loop-reg-preserved
loop-reg-preserved g c = λ plain.
    let mask = c.args.self.now.0 in
    let so_far = c.loop-reg.invariant plain in
    has_written_of_eq _ _ _ _ _
    (flat_map_more (listed mask) [] (take c.loop-reg.reg-index all_regs) _ ∙ ap (flat_map (listed mask)) (sym (take_more all_regs c.loop-reg.reg-index R0 (omega arith))))
    (has_written_append _ _ _ _ _ _ so_far (elim c.if-holds.branch [ then-holds+in_ok-write w ↦ search rules | else-holds w ↦ search rules ]))
