use Rattle.lookup_nth.proofs.Counted.{Counted}
use Rattle.lookup_nth.proofs.Entries.count_params.Given as goal

abbrev pub invariant-loop : goal.invariant-loop
invariant-loop l = Counted l.self.bytes.now l.self.count l.at l.counter l.params
