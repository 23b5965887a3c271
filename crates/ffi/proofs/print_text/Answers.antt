use Rattle.std.proofs.Common.{length, sym, ap, ◌∙◌, subst}
use Rattle.sink.specs.Outcome.{outcome}
use Rattle.sink.specs.TextSinks.{text_sink}
use Rattle.lines.specs.Admission.{refused}
use Rattle.lines.specs.Lines.{line}
use Rattle.ffi.specs.Lines.{numbered, over, TellsRefusal}
use Rattle.ffi.proofs.Shown.{shows, filled_over}
use Rattle.ffi.proofs.print_text.Goals as goal

pub returns : goal.returns
returns c =
    let i = c.args.instruction.now in
    let empty = c.new-sink.ensures.empty in
    let same = c.new-sink.ensures.memory.0 in
    let told = shows text_sink (line i) _ _ c.new-sink.result c.visit_inst-answer.new.out (outcome c.visit_inst-answer.result) (refused i) empty c.visit_inst-answer.ensures.printed_or_refused in
    record {
      text = (
        c.answered.ensures.size ∙ c.end-length.ensures.value ∙ ap length told.text,
        subst (λ o. TellsRefusal (numbered o) c.answered.result) told.told c.answered.ensures.refusal,
      );
      others = c.answered.ensures.others;
      memory = c.out-1.given.1.1 (sym (told.rest.memory ∙ c.new-sink.ensures.memory.1))
          ∙ c.end-length.ensures.memory
          ∙ filled_over _ _ _ _ _ told.rest.filled (ap (λ k. k.limit) empty ∙ ap length (sym same)) told.text
          ∙ ap (over _) same;
    }
