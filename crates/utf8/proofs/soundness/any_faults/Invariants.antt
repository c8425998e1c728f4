use mathlib.Core.Path.{◌≡◌}
use mathlib.Core.Bool.{not}
use Rattle.utf8.specs.Sound.{all_sound}
use Rattle.utf8.proofs.soundness.any_faults.Given as goal

abbrev pub invariant-loop-k : goal.invariant-loop-k
invariant-loop-k l = l.any ≡ not (all_sound l.k l.part)
