use Rattle.utf8.proofs.Sound.{pair_is}
use Rattle.utf8.proofs.soundness.pair_fault.Goals as goal

pub returns : goal.returns
returns c = rw (c.trails.ensures, c.owed.ensures) (pair_is c.args.p1 c.args.c)
