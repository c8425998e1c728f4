use Prim.Native.Nat.{◌-◌, ◌≤◌}
use lib.ListN.{length, drop}
use Rattle.format.specs.Characters.{replaced}
use Rattle.octets.proofs.Written.{Written}
use Rattle.utf8.proofs.replace.put_replaced.Given as goal

abbrev pub invariant-loop-at : goal.invariant-loop-at
invariant-loop-at l = (l.from ≤ length l.s) × Written (replaced l.s) l.initial.out l.out l.at l.to (replaced (drop l.from l.s))

abbrev pub decreases-loop-at : goal.decreases-loop-at
decreases-loop-at l = length l.s - l.from
