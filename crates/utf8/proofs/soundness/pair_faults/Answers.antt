use mathlib.Core.Path.{refl}
use Rattle.utf8.specs.Sound.{all_pairs}
use Rattle.utf8.proofs.Sound.{pairs_more}
use Rattle.utf8.proofs.soundness.pair_faults.Goals as goal

pub loop-i-init : goal.loop-i-init
unfolding all_pairs
loop-i-init c = refl

pub loop-i-preserved : goal.loop-i-preserved
loop-i-preserved c = pairs_more c.args.part.now c.loop-i.i c.loop-i.any c.pair_fault-any.result c.loop-i.invariant c.pair_fault-any.ensures
