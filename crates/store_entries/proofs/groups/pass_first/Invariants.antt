use Rattle.store_entries.proofs.EntryWalk.{First}
use Rattle.store_entries.proofs.groups.pass_first.Given as goal

abbrev pub invariant-loop : goal.invariant-loop
invariant-loop l = First l.s l.from l.count l.n l.size l.counter
