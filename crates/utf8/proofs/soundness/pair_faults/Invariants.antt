use mathlib.Core.Path.{◌≡◌}
use mathlib.Core.Bool.{not}
use Rattle.utf8.specs.Sound.{all_pairs}
use Rattle.utf8.proofs.soundness.pair_faults.Given as goal

abbrev pub invariant-loop-i : goal.invariant-loop-i
invariant-loop-i l = l.any ≡ not (all_pairs l.i l.part)
