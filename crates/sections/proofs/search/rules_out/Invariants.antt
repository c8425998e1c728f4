use mathlib.Core.Path.{◌≡◌}
use Prim.Native.Nat.{◌+◌, ◌≤◌, ◌<◌}
use lib.ListN.{drop}
use Rattle.sections.specs.Place.{place}
use Rattle.sections.proofs.search.rules_out.Given as goal

abbrev pub invariant-loop-k : goal.invariant-loop-k
invariant-loop-k l = (l.k ≤ 16) × (0 < l.low → place l.pattern l.block ≡ l.k + place l.pattern (drop l.k l.block))
