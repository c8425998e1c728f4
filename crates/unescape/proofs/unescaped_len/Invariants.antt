-- What has been read, of n bytes, and what is left of the text to be read.
use Prim.Native.Nat.{◌+◌, ◌≤◌}
use lib.ListN.{length}
use Rattle.unescape.proofs.Stretches.{Read}
use Rattle.unescape.proofs.unescaped_len.Given as goal

abbrev pub invariant-loop-found : goal.invariant-loop-found
invariant-loop-found l = (l.n + length l.rest ≤ length l.s) × Read l.manner l.s l.n l.rest

abbrev pub decreases-loop-found : goal.decreases-loop-found
decreases-loop-found l = length l.rest
