use mathlib.Core.Path.{◌≡◌}
use Prim.Native.Nat.{◌+◌, ◌-◌, ◌*◌, ◌≤◌}
use lib.ListN.{length, drop}
use Rattle.sections.specs.Body.{joined}
use Rattle.sections.proofs.bodies.joined_len.Given as goal

abbrev pub invariant-loop-next : goal.invariant-loop-next
invariant-loop-next l = (l.at ≤ length l.rest) × (l.len ≤ 2 * l.at) × (length (joined l.rest) ≡ l.len + length (joined (drop l.at l.rest)))

abbrev pub decreases-loop-next : goal.decreases-loop-next
decreases-loop-next l = length l.rest - l.at
