use Rattle.sink.specs.Lent.{filled_twice}
use Rattle.sink.proofs.lent.put_long.Goals as goal

pub returns-clause-rest : goal.returns-clause-rest
returns-clause-rest g c = filled_twice c.put-2.ensures.rest c.put-3.ensures.rest
