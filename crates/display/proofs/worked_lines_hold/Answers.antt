use Rattle.std.proofs.Common.{refl}
use Rattle.lines.specs.Admission.{refused}
use Rattle.lines.specs.Lines.{line}
use Rattle.display.proofs.worked_lines_hold.Goals as goal

pub returns : goal.returns
unfolding line refused
returns c = record {
  worked_lines = record {
    pop_list = (refl, refl);
    not_a_pop = (refl, refl);
    push_list = (refl, refl);
    pop_one = (refl, refl);
    pop_one_marks = refl;
    load_one = (refl, refl);
    it_then = (refl, refl);
    it_else = (refl, refl);
    interrupts = (refl, refl);
    coprocessor = (refl, refl);
    backwards = (refl, refl);
    here = (refl, refl);
    furthest = (refl, refl);
    too_far = refl;
  };
}
