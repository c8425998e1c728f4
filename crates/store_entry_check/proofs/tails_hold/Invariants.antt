use Rattle.store_entry_check.proofs.CheckWalk.{Looked}
use Rattle.store_entry_check.proofs.tails_hold.Given as goal

abbrev pub invariant-loop : goal.invariant-loop
invariant-loop l = Looked l.s l.count l.at l.counter
