use mathlib.Core.Path.{◌≡◌}
use mathlib.Core.List.{map}
use lib.ListN.{drop}
use Rattle.format.specs.Bytes.{occurs, lower}
use Rattle.octets.proofs.compare.says.Given as goal

abbrev pub invariant-loop-at : goal.invariant-loop-at
invariant-loop-at l = occurs l.pattern (map lower l.text) ≡ occurs l.pattern (drop l.at (map lower l.text))
