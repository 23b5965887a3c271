use Rattle.std.proofs.Common.{Ok, Err, ap, subst}
use Rattle.notation.specs.Parsing.{then}
use Rattle.notation.specs.Places.{ahead}
use Rattle.notation.specs.Reads.{stop, Tells}
use Rattle.record.specs.Law.{Answered}
use Rattle.record.proofs.Lines.{answered_sound, answered_complete}
use Rattle.record.proofs.read.read_line.Goals as goal

pub returns-in-Ok : goal.returns-in-Ok
returns-in-Ok c =
    let line = c.args.line.now in
    let is : Answered line (Ok c.in-Ok.call) = ap (λ o. then o (λ x. Ok x.0)) c.in-Ok.ensures.value in
    let said = answered_sound line (Ok c.in-Ok.call) is in
    record { sound = said.1; lawful = said.0; complete = answered_complete line (Ok c.in-Ok.call) is; answer = is; place = tt }

pub returns-in-Err : goal.returns-in-Err
returns-in-Err c =
    let line = c.args.line.now in
    let m = c.misread.result in
    let s = stop c.in-Err.slip (ahead c.read_call.new.cursor) in
    let tells : Tells line m s = subst (λ l. Tells l m s) (ap (λ l. l.now) c.in-Err.ensures.line) c.misread.ensures.tells in
    let is : Answered line (Err m) = (s, (ap (λ o. then o (λ x. Ok x.0)) c.in-Err.ensures.value, tells)) in
    record { sound = tt; lawful = tt; complete = answered_complete line (Err m) is; answer = is; place = tells.place }
