use mathlib.Core.Path.{◌≡◌}
use mathlib.Core.Bool.{false}
use Prim.Native.Nat.{◌+◌, ◌-◌, ◌≤◌}
use lib.ListN.{length, drop}
use Rattle.format.specs.Bytes.{total}
use Rattle.sections.specs.Body.{joined, filled}
use Rattle.sections.proofs.JoinTurn.{parts_in}
use Rattle.sections.proofs.bodies.join_body.Given as goal

abbrev pub invariant-loop-out : goal.invariant-loop-out
invariant-loop-out l =
    (l.from ≤ length l.rest) × (l.to ≤ length l.out) × (length l.out ≡ length l.initial.out)
    × (l.to + total length (parts_in l.ahead (drop l.from l.rest)) ≡ length (joined l.rest))
    × (filled l.to (parts_in l.ahead (drop l.from l.rest)) l.out ≡ filled 0 (parts_in false l.rest) l.initial.out)

abbrev pub decreases-loop-out : goal.decreases-loop-out
decreases-loop-out l = length l.rest - l.from
