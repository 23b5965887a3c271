use Rattle.std.proofs.Common.{map, length, take, set, ap, ◌∙◌, ap₂, arith, length-take, take_all}
use Rattle.ffi.specs.Lines.{over}
use Rattle.ffi.specs.Marks.{mark_code}
use Rattle.ffi.proofs.Numbers.{number_more, numbers_first, numbers_count}
use Rattle.ffi.proofs.number_marks.Goals as goal

pub loop-place-preserved : goal.loop-place-preserved
loop-place-preserved c =
    let held = take c.min-most.result c.args.marks.now in
    ap₂ (λ l v. set l c.loop-place.place v) c.loop-place.invariant c.mark_number.ensures
    ∙ number_more c.loop-place.place c.args.row.now held _ c.loop-place-test.true (omega (arith, length-take c.min-most.result c.args.marks.now))

pub returns : goal.returns
returns c =
    let ms = c.args.marks.now in
    let n = length c.args.row.now in
    record {
      value = c.min-most.ensures ∙ numbers_count n ms;
      row = c.loop-place.invariant
          ∙ ap (λ l. over l c.args.row.now)
          (ap (map mark_code) (take_all c.loop-place.place (take c.min-most.result ms) c.loop-place-test.false)
          ∙ ap (λ k. map mark_code (take k ms)) c.min-most.ensures
          ∙ numbers_first n ms);
    }
