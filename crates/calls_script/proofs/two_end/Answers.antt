-- `calls_script::two_end` meets its contract. Assumes nothing.
use Rattle.calls_script.proofs.ArgumentPlaces.{none_end, some_end}
use Rattle.calls_script.proofs.ArgumentEnds.{both_cut, both_end, next_within}
use Rattle.calls_script.proofs.two_end.Goals as goal

pub returns-in_err-next : goal.returns-in_err-next
returns-in_err-next c = rw c.from_residual.ensures (both_cut c.args.s.now c.args.at (none_end _ _ c.in_err-next.ensures))

pub argument_end-requires-2 : goal.argument_end-requires-2
argument_end-requires-2 c =
    let first = some_end _ _ c.in_ok-next.next c.in_ok-next.ensures in
    next_within c.args.s.now c.args.at c.in_ok-next.next first.0 first.1

pub returns : goal.returns
returns c =
    let first = some_end _ _ c.in_ok-next.next c.in_ok-next.ensures in
    both_end c.args.s.now c.args.at c.in_ok-next.next first.0 first.1 _ c.argument_end-2.ensures
