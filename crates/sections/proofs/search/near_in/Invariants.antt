use mathlib.Core.Path.{◌≡◌}
use mathlib.Core.Bool.{◌||◌}
use Prim.Native.Nat.{◌≤◌}
use lib.ListN.{length, drop}
use lib.Dec.{eqb}
use Rattle.sections.specs.Block.{near}
use Rattle.sections.proofs.search.near_in.Given as goal

abbrev pub invariant-loop-k : goal.invariant-loop-k
invariant-loop-k g l = (l.k ≤ length l.text) × (near l.first l.last l.text l.behind ≡ (eqb l.low 0 || near l.first l.last (drop l.k l.text) (drop l.k l.behind)))
