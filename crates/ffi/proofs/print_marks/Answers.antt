use Rattle.std.proofs.Common.{◌≡◌, length, sym, ap, ◌∙◌, subst, take_all}
use Rattle.sink.specs.Items.{marks_from}
use Rattle.sink.specs.MarkSinks.{mark_sink}
use Rattle.sink.specs.Outcome.{outcome}
use Rattle.lines.specs.Admission.{refused}
use Rattle.lines.specs.Lines.{line}
use Rattle.blocks.proofs.Bounds.{lines_bounded}
use Rattle.ffi.specs.Lines.{items_unless, numbered, over, TellsRefusal}
use Rattle.ffi.specs.Marks.{numbers_in}
use Rattle.ffi.proofs.Numbers.{marks_within}
use Rattle.ffi.proofs.Shown.{shows, filled_over}
use Rattle.ffi.proofs.print_marks.Goals as goal

pub returns : goal.returns
returns c =
    let i = c.args.instruction.now in
    let empty = c.new-sink.ensures.empty in
    let same = c.new-sink.ensures.memory.0 in
    let told = shows mark_sink (line i) _ 130 c.new-sink.result c.visit_inst-answer.new.out (outcome c.visit_inst-answer.result) (refused i) empty c.visit_inst-answer.ensures.printed_or_refused in
    let items = items_unless (refused i) (length c.args.out.now) (line i) in
    let held : c.marks.result.now ≡ marks_from 0 items = c.marks.ensures.value
    ∙ told.marks
    ∙ take_all 130 (marks_from 0 items) (marks_within (refused i) 130 (length c.args.out.now) (line i) (λ e. (lines_bounded i e).marks)) in
    record {
      text = (
        c.answered.ensures.size ∙ c.end-length.ensures.value.0 ∙ ap length told.text,
        subst (λ o. TellsRefusal (numbered o) c.answered.result) told.told c.answered.ensures.refusal,
      );
      column = c.answered.ensures.others.1;
      marks = c.answered.ensures.others.0 ∙ c.number_marks-written.ensures.value ∙ ap (λ ms. length (numbers_in (length c.args.row.now) ms)) held;
      memory = c.out-1.given.1.1 (sym (told.rest.memory ∙ c.new-sink.ensures.memory.1))
          ∙ c.end-length.ensures.memory
          ∙ filled_over _ _ _ _ _ told.rest.filled (ap (λ k. k.limit) empty ∙ ap length (sym same)) told.text
          ∙ ap (over _) same;
      row = c.number_marks-written.ensures.row ∙ ap (λ ms. over (numbers_in (length c.args.row.now) ms) c.args.row.now) held;
    }
