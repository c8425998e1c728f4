use mathlib.Core.Path.{◌≡◌}
use lib.ListN.{take}
use Rattle.format.specs.Bytes.{any}
use Rattle.escape.specs.Bare.{is_low}
use Rattle.escape.proofs.bare.has_low.Given as goal

abbrev pub invariant-loop-k : goal.invariant-loop-k
invariant-loop-k l = l.hit ≡ any is_low (take l.k l.block)
