use mathlib.Core.Path.{◌≡◌}
use Prim.Native.Nat.{max}
use lib.ListN.{drop}
use Rattle.utf8.specs.Blocks.{largest_of}
use Rattle.utf8.proofs.blocks.largest.Given as goal

abbrev pub invariant-loop-b : goal.invariant-loop-b
invariant-loop-b l = largest_of l.part ≡ max l.top (largest_of (drop l.b-index l.part))
