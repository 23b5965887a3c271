use Rattle.std.proofs.Common.{◌≡◌, ◌*◌, nat_abs, ap, ◌∙◌, ap₂, w32}
use Rattle.sink.specs.Items.{text_items}
use Rattle.std.proofs.lemmas.Int.{to_z-of_z}
use Rattle.visitor.specs.Texts.{prefixed}
use Rattle.text.proofs.Branches.{way, branch_parts}
use Rattle.visitor.proofs.Pieces.{renamed, texts, text_stop}
use Rattle.text.proofs.number.write_branch.Goals as goal

pub returns-in_err-write_either : goal.returns-in_err-write_either
returns-in_err-write_either g c =
    let z = c.args.distance in
    let same = to_z-of_z w32 z c.ranges.distance in
    record {
      printed = renamed (ap text_items (branch_parts c.args.scale z))
          (text_stop g.T.DisplaySink.sink (way z) (prefixed 8 (c.args.scale * nat_abs z)) c.from_residual.result c.in_err-write_either.field-0.0 (renamed (ap (λ d. text_items (way d)) same) c.in_err-write_either.ensures.printed) c.from_residual.ensures.1);
    }

pub returns : goal.returns
returns g c =
    let z = c.args.distance in
    let same = to_z-of_z w32 z c.ranges.distance in
    let size : c.from.result * c.from-2.result ≡ c.args.scale * nat_abs z = ap₂ ◌*◌ c.from.ensures (c.from-2.ensures ∙ c.unsigned_abs.ensures.value ∙ ap nat_abs same) in
    record {
      printed = renamed (ap text_items (branch_parts c.args.scale z))
          (texts g.T.DisplaySink.sink (way z) (prefixed 8 (c.args.scale * nat_abs z)) (renamed (ap (λ d. text_items (way d)) same) c.in_ok-write_either.ensures.printed) (renamed (ap (λ n. text_items (prefixed 8 n)) size) c.write_last_digits.ensures));
    }
