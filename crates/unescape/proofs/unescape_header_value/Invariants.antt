-- What has been read is written from the place at on, and ends at the place to.
use lib.ListN.{length}
use Rattle.unescape.proofs.Stretches.{Written}
use Rattle.unescape.proofs.unescape_header_value.Given as goal

abbrev pub invariant-loop-found : goal.invariant-loop-found
invariant-loop-found l = Written l.manner l.s l.rest l.at l.to l.initial.out l.out

abbrev pub decreases-loop-found : goal.decreases-loop-found
decreases-loop-found l = length l.rest
