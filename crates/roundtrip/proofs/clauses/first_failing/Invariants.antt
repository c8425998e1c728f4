use Rattle.roundtrip.specs.Clauses.{Asks}
use Rattle.roundtrip.proofs.Walking.{Walked}
use Rattle.roundtrip.proofs.clauses.first_failing.Given as goal

abbrev pub invariant-loop-i : goal.invariant-loop-i
invariant-loop-i g l = Walked (Asks g.F.Fn l.passes) l.entries.bytes.now l.entries.count l.at l.i
