use mathlib.Core.Path.{◌≡◌}
use Prim.Native.Nat.{◌+◌, ◌-◌, ◌≤◌}
use lib.ListN.{length, drop}
use Rattle.format.specs.Bytes.{pasted}
use Rattle.format.specs.Escaping.{escape}
use Rattle.escape.proofs.escape_header_value.Given as goal

abbrev pub invariant-loop-i : goal.invariant-loop-i
invariant-loop-i l =
    (l.i ≤ length l.v)
    × (l.to + length (escape (drop l.i l.v)) ≡ l.at + length (escape l.v))
    × (pasted l.to (escape (drop l.i l.v)) l.out ≡ pasted l.at (escape l.v) l.initial.out)
    × (length l.out ≡ length l.initial.out)

abbrev pub decreases-loop-i : goal.decreases-loop-i
decreases-loop-i l = length l.v - l.i
