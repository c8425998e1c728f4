use Rattle.lookup_places.proofs.Fronts.{Rowed}
use Rattle.lookup_places.proofs.put_rows.Given as goal

abbrev pub invariant-loop-i : goal.invariant-loop-i
invariant-loop-i l = Rowed l.s l.initial.out l.out l.rows l.at l.i
