use Rattle.std.proofs.Common.{◌≡◌, ◌^◌, ◌<◌, ◌++◌, length, take, drop, sym, ap, ◌∙◌, arith}
use Rattle.sink.specs.Outcome.{outcome}
use Rattle.sink.specs.TextSinks.{text_meaning, text_sink}
use Rattle.lines.specs.Admission.{refused}
use Rattle.lines.specs.Lines.{line}
use Rattle.blocks.proofs.Bounds.{lines_bounded}
use Rattle.buffer.proofs.Printed.{held, filled_behind}
use Rattle.buffer.proofs.InstructionTextBuffer.format_inst.Goals as goal

pub shape_of-self : goal.shape_of-self
shape_of-self c =
    let i = c.args.instruction.now in
    let told = held text_sink (line i) _ _ c.new-out.result c.visit_inst-answer.new.out (outcome c.visit_inst-answer.result) (refused i) c.new-out.ensures.empty (λ e. omega (arith, (lines_bounded i e).size)) c.visit_inst-answer.ensures.printed_or_refused in
    sym (told.rest.memory ∙ c.new-out.ensures.memory.1)

pub returns : goal.returns
returns c =
    let i = c.args.instruction.now in
    let empty = c.new-out.result in
    let full = c.visit_inst-answer.new.out in
    let told = held text_sink (line i) _ _ empty full (outcome c.visit_inst-answer.result) (refused i) c.new-out.ensures.empty (λ e. omega (arith, (lines_bounded i e).size)) c.visit_inst-answer.ensures.printed_or_refused in
    let begun = c.new-out.ensures.memory.0 in
    let ended = c.end-size.ensures.memory in
    let front = take c.end-size.result c.end-size.new.self.0 in
    let shown : front ≡ (text_meaning full).text = ap (take c.end-size.result) ended ∙ c.end-size.ensures.text in
    let bits : length full.buf.now < 2 ^ 64 = omega (arith, told.rest.filled.size, ap length begun) in
    record {
      refusal = told.told;
      text = shown ∙ told.text;
      memory = ended ∙ filled_behind empty.buf.now full.buf.now front empty.len full.len told.rest.filled full.within bits (sym shown) ∙ ap (λ xs. front ++ drop (length front) xs) begun;
    }
