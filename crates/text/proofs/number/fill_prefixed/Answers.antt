use Rattle.std.proofs.Common.{◌≡◌, ◌-◌, ◌/◌, ◌%◌, ◌∷◌, ◌++◌, length, get_or, drop, set, codes, sym, ap, ◌∙◌, append-nil, arith, length-set}
use Rattle.std.proofs.lemmas.List.{drop_all, get_or_default}
use Rattle.visitor.specs.Texts.{hex_digit, hex_digits}
use Rattle.text.proofs.Hex.{digits_last, digits_more, placed}
use Rattle.text.proofs.number.fill_prefixed.Goals as goal

pub loop-place-init : goal.loop-place-init
loop-place-init c =
    let size : length c.args.memory.now ≡ 10 = omega arith in
    (size, omega arith, omega arith, ap (λ ds. hex_digits 8 c.args.number ++ ds) (drop_all 10 c.args.memory.now (omega arith)) ∙ append-nil _)

pub returns-then-rest-lt16-clause-value : goal.returns-then-rest-lt16-clause-value
returns-then-rest-lt16-clause-value c =
    let rest = c.loop-place.rest in
    let place = c.loop-place.place in
    let memory = c.loop-place.memory in
    let digit = get_or (codes "0123456789abcdef") (rest % 16) 0 in
    let known : hex_digit (rest % 16) ≡ digit = get_or_default (codes "0123456789abcdef") (rest % 16) 48 0 (omega arith) in
    let stands : drop (place - 1) (set memory (place - 1) digit) ≡ hex_digit (rest % 16) ∷ drop place memory = placed memory (place - 1) place digit (omega arith) (omega arith) ∙ ap (λ d. d ∷ drop place memory) (sym known) in
    c.mark_base.ensures.value ∙ ap (λ ds. codes "0x" ++ ds) (stands ∙ sym (digits_last (place - 2) rest (drop place memory) (omega arith) (omega arith)) ∙ c.loop-place.invariant.3)

pub loop-place-preserved : goal.loop-place-preserved
loop-place-preserved c =
    let rest = c.loop-place.rest in
    let place = c.loop-place.place in
    let memory = c.loop-place.memory in
    let digit = get_or (codes "0123456789abcdef") (rest % 16) 0 in
    let known : hex_digit (rest % 16) ≡ digit = get_or_default (codes "0123456789abcdef") (rest % 16) 48 0 (omega arith) in
    let stands : drop (place - 1) (set memory (place - 1) digit) ≡ hex_digit (rest % 16) ∷ drop place memory = placed memory (place - 1) place digit (omega arith) (omega arith) ∙ ap (λ d. d ∷ drop place memory) (sym known) in
    let size = length-set memory (place - 1) digit in
    let less : place - 1 - 2 ≡ place - 2 - 1 = omega arith in (
      omega arith,
      omega arith,
      omega arith,
      ap (λ j. hex_digits j (rest / 16) ++ drop (place - 1) (set memory (place - 1) digit)) less
          ∙ ap (λ ds. hex_digits (place - 2 - 1) (rest / 16) ++ ds) stands
          ∙ sym (digits_more (place - 2) rest (drop place memory) (omega arith) (omega arith))
          ∙ c.loop-place.invariant.3,
    )
