use Rattle.store_entry_check.proofs.CheckWalk.{Judged}
use Rattle.store_entry_check.proofs.entries_hold.Given as goal

abbrev pub invariant-loop : goal.invariant-loop
invariant-loop l = Judged l.kind l.s l.count l.at l.last l.counter
