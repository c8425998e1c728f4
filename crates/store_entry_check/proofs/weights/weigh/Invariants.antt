use mathlib.Core.Path.{◌≡◌}
use Prim.Native.Nat.{◌+◌, ◌*◌, ◌≤◌}
use lib.ListN.{drop}
use Rattle.format.specs.Bytes.{total}
use Rattle.store_entry_check.specs.Weights.{weight}
use Rattle.store_entry_check.proofs.weights.weigh.Given as goal

abbrev pub invariant-loop-b : goal.invariant-loop-b
invariant-loop-b l = (l.sum ≤ 255 * l.b-index) × (total weight l.s ≡ l.sum + total weight (drop l.b-index l.s))
