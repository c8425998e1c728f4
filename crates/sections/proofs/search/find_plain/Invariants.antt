use mathlib.Core.Path.{◌≡◌}
use Prim.Native.Nat.{◌+◌, ◌-◌, ◌≤◌}
use lib.ListN.{length, drop}
use Rattle.format.specs.Bytes.{begins}
use Rattle.sections.specs.Place.{place}
use Rattle.sections.proofs.search.find_plain.Given as goal

abbrev pub invariant-loop-k : goal.invariant-loop-k
invariant-loop-k l = (l.place + length l.pattern ≤ length l.text) × (l.k ≤ length l.pattern) × (begins l.pattern (drop l.place l.text) ≡ begins (drop l.k l.pattern) (drop (l.place + l.k) l.text))

abbrev pub decreases-loop-k : goal.decreases-loop-k
decreases-loop-k l = length l.pattern - l.k

abbrev pub invariant-places : goal.invariant-places
invariant-places l = (l.place ≤ length l.text) × (place l.pattern l.text ≡ l.place + place l.pattern (drop l.place l.text))

abbrev pub decreases-places : goal.decreases-places
decreases-places l = length l.text - l.place
