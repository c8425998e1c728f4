use Rattle.utf8.proofs.Sound.{fault_is}
use Rattle.utf8.proofs.soundness.fault.Goals as goal

pub returns : goal.returns
returns c =
    let a = c.args in
    rw (c.trails.ensures, c.owed.ensures, c.least_behind.ensures, c.greatest_behind.ensures) (fault_is a.p3 a.p2 a.p1 a.b)
