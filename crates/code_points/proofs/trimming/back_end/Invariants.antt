use mathlib.Core.Path.{◌≡◌}
use Prim.Native.Nat.{◌≤◌}
use lib.ListN.{length, take}
use Rattle.format.specs.Characters.{chars, is_white, drop_back}
use Rattle.code_points.proofs.trimming.back_end.Given as goal

abbrev pub invariant-loop-n : goal.invariant-loop-n
invariant-loop-n l = (l.end ≤ length l.s) × (drop_back is_white (chars l.s) ≡ drop_back is_white (chars (take l.end l.s)))

abbrev pub decreases-loop-n : goal.decreases-loop-n
decreases-loop-n l = l.end
