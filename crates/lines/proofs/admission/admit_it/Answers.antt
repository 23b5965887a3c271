use Rattle.std.proofs.Common.{◌≡◌, ◌≤◌, Ok, subst, rules}
use Rattle.kind.specs.declared.Kind.TheVariants.{It as ItKind}
use Rattle.lines.specs.declared.form.Form.TheVariants.{It}
use Rattle.lines.specs.Forms.{AdmittedAs}
use Rattle.lines.specs.Lines.{condition_at}
use Rattle.lines.proofs.Conditions.{it_admitted}
use Rattle.lines.proofs.admission.admit_it.Goals as goal

pub returns : goal.returns
returns c =
    let i = c.args.instruction.now in
    let n = c.in-Imm32.condition in
    let m = c.in-Imm32-second.mask in
    let known : n ≤ 14 = search rules in
    let found : condition_at n ≡ c.in_ok-condition.condition = search rules in
    record { admitted = subst (λ k. AdmittedAs ItKind i (Ok (It (record { condition = k; mask = m })))) found (it_admitted i n m c.in-Imm32.is c.in-Imm32-second.is known c.if-mask-gt15.false) }
