use Rattle.std.proofs.Common.{rules, tests, sym, ap, ◌∙◌}
use Rattle.std.proofs.lemmas.Iterator.{YieldsList-from_slice}
use Rattle.std.proofs.lemmas.Iterator.Search.{find_from_yields_List}
use Rattle.std.specs.Option.{option_map}
use Rattle.std.specs.Str.{bytes_eq}
use Rattle.notation.proofs.Tables.{row_found}
use Rattle.notation.proofs.leaf.row_of.Goals as goal

pub returns-in_err-known : goal.returns-in_err-known
returns-in_err-known g c =
    let found = row_found c.args.table.now c.args.word.now c.find.result (find_from_yields_List (λ p. bytes_eq c.args.word.now p.0.now) _ _ c.find.result c.find.ensures.ran (YieldsList-from_slice c.args.table.now cc) (λ x b q k. search (rules, tests))) in
    record { value = c.from_residual.ensures ∙ sym (found ∙ ap (option_map (λ p. p.now.1)) c.in_err-known.was) }

pub returns : goal.returns
returns g c =
    let found = row_found c.args.table.now c.args.word.now c.find.result (find_from_yields_List (λ p. bytes_eq c.args.word.now p.0.now) _ _ c.find.result c.find.ensures.ran (YieldsList-from_slice c.args.table.now cc) (λ x b q k. search (rules, tests))) in
    record { value = sym (found ∙ ap (option_map (λ p. p.now.1)) c.in_ok-known.was) }
