use Rattle.std.proofs.Common.{◌≡◌, ◌%◌, [], ◌∷◌, ◌++◌, get_or, codes, sym, ap, ◌∙◌, append-nil, arith}
use Rattle.std.proofs.lemmas.List.{get_or_default}
use Rattle.sink.specs.Items.{text_items}
use Rattle.visitor.specs.Texts.{hex_digit, hex_digits}
use Rattle.visitor.proofs.Pieces.{renamed}
use Rattle.text.proofs.Hex.{digits_last}
use Rattle.text.proofs.number.write_last_digits.Goals as goal

pub returns-then-number-lt16 : goal.returns-then-number-lt16
returns-then-number-lt16 g c =
    let n = c.args.number in
    let small = c.if-number-lt16.true in
    let digit = get_or (codes "0123456789abcdef") n 0 in
    let known : hex_digit n ≡ digit = get_or_default (codes "0123456789abcdef") n 48 0 (omega arith) in
    let last : n % 16 ≡ n = omega arith in
    let only : hex_digits 8 n ≡ digit ∷ [] = sym (append-nil (hex_digits 8 n)) ∙ digits_last 8 n [] (omega arith) small ∙ ap (λ m. hex_digit m ∷ []) last ∙ ap (λ d. d ∷ []) known in
    renamed (ap (λ ds. text_items (codes "0x" ++ ds)) (sym only)) c.write_text.ensures.printed
