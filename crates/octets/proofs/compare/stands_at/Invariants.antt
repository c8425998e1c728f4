use mathlib.Core.Path.{◌≡◌}
use mathlib.Core.List.{map}
use Prim.Native.Nat.{◌+◌}
use lib.ListN.{drop}
use Rattle.format.specs.Bytes.{begins, lower}
use Rattle.octets.proofs.compare.stands_at.Given as goal

abbrev pub invariant-loop-j : goal.invariant-loop-j
invariant-loop-j l = begins l.pattern (drop l.at (map lower l.text)) ≡ begins (drop l.j l.pattern) (drop (l.at + l.j) (map lower l.text))
