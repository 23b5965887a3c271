use Rattle.std.proofs.Common.{◌<◌, [], get_or, ap}
use Rattle.armv7.specs.Status.{status_names}
use Rattle.armv7.proofs.Tables.{now_at}
use Rattle.armv7.proofs.status.StatusRegMask.name.Goals as goal

pub returns : goal.returns
returns c =
    let h : c.number.result < 32 = c.number.ensures.bound in
    record { value = rw now_at (ap (λ n. get_or status_names n []) c.number.ensures.value) }
