use mathlib.Core.Path.{◌≡◌}
use Prim.Native.Nat.{◌+◌, ◌≤◌}
use lib.ListN.{length, take, drop}
use Rattle.format.specs.Bytes.{pasted}
use Rattle.octets.proofs.shifting.shift_right.Given as goal

abbrev pub invariant-loop-i : goal.invariant-loop-i
invariant-loop-i l = (l.i ≤ l.n) × (l.s ≡ pasted (l.to + l.i) (drop l.i (take l.n (drop l.from l.initial.s))) l.initial.s) × (length l.s ≡ length l.initial.s)

abbrev pub decreases-loop-i : goal.decreases-loop-i
decreases-loop-i l = l.i
