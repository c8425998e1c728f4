use mathlib.Core.Path.{refl}
use Rattle.utf8.specs.Sound.{all_sound}
use Rattle.utf8.proofs.Sound.{faults_more}
use Rattle.utf8.proofs.soundness.any_faults.Goals as goal

pub loop-k-init : goal.loop-k-init
unfolding all_sound
loop-k-init c = refl

pub loop-k-preserved : goal.loop-k-preserved
loop-k-preserved c = faults_more c.args.part.now c.loop-k.k c.loop-k.any c.fault-any.result c.loop-k.invariant c.fault-any.ensures
