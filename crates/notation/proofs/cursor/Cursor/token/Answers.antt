use Rattle.std.proofs.Common.{◌≡◌, ◌+◌, ◌-◌, length, get_or, take, drop, sym, ap, ◌∙◌, arith, length-take-le}
use Rattle.std.proofs.lemmas.List.{length-drop}
use Rattle.notation.specs.Tokens.{blank, tokens}
use Rattle.notation.proofs.Lexing.{next_token}
use Rattle.notation.proofs.cursor.Cursor.token.Goals as goal

pub returns : goal.returns
returns c =
    let line = c.args.self.now.line.now in
    let n = next_token line _ _ _ c.args.self.now.inside c.blanks.ensures.value c.token_len.ensures.value in
    let start = c.args.self.now.at + c.blanks.result in
    let len : (start + c.token_len.result) - start ≡ c.token_len.result = omega arith in
    let long : length (take ((start + c.token_len.result) - start) (drop start line)) ≡ c.token_len.result = length-take-le _ _ (omega (arith, n.within, length-drop start line)) ∙ len in
    let back : (start + 1) - 1 ≡ start = omega arith in
    record {
      place = record {
        counts = omega arith;
        within = omega (arith, n.within);
        reads = ap (λ j. take j (drop start line)) (len ∙ sym long) ∙ ap (λ j. take (length (take ((start + c.token_len.result) - start) (drop start line))) (drop j line)) (sym back);
        opens = λ h. ap (λ j. blank (get_or line j 0)) back ∙ n.opens (omega arith);
      };
      left = ap (λ j. tokens (drop j line)) back ∙ n.left;
      value = ap (λ j. take j (drop start line)) len ∙ n.value;
      ends = omega arith;
      within = n.within;
      after = n.after;
    }
