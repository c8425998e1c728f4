use mathlib.Core.Path.{◌≡◌}
use lib.ListN.{drop}
use Rattle.format.specs.LookingUp.{past_opening}
use Rattle.format.specs.declared.Quoting.TheVariants.{Outside}
use Rattle.lookup_part.proofs.opening.opening_plain.Given as goal

abbrev pub invariant-loop-i : goal.invariant-loop-i
invariant-loop-i l = past_opening Outside l.value ≡ past_opening l.at (drop l.i l.value)
