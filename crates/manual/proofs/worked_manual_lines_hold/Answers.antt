use Rattle.std.proofs.Common.{refl}
use Rattle.lines.specs.Admission.{refused}
use Rattle.manual.specs.Lines.{manual_refused, manual_line}
use Rattle.manual.proofs.worked_manual_lines_hold.Goals as goal

pub returns : goal.returns
unfolding refused manual_refused manual_line
returns c = record {
  worked = record {
    pop_list = (refl, refl);
    pop_by_operand = (refl, refl);
    user_is_no_pop = (refl, refl);
    push_list = (refl, refl);
    before = (refl, refl);
    downwards = (refl, refl);
    pop_one = (refl, refl);
    pop_one_marks = refl;
    push_one = (refl, refl);
    no_pop = refl;
    no_form_of_pop = refl;
    too_far = refl;
  };
}
