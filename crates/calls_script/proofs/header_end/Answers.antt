-- `calls_script::header_end` meets its contract. Assumes nothing.
use native.Mathlib.Omega.{arith}
use Rattle.calls_script.proofs.ArgumentPlaces.{none_end, some_end}
use Rattle.calls_script.proofs.ArgumentEnds.{header_cut, record_cut, header_end, next_within}
use Rattle.calls_script.proofs.header_end.Goals as goal

pub returns-in_err-next : goal.returns-in_err-next
returns-in_err-next c = rw c.from_residual.ensures (header_cut c.args.s.now c.args.at (none_end _ _ c.in_err-next.ensures))

pub overflow_sub-s : goal.overflow_sub-s
overflow_sub-s c =
    let first = some_end _ _ c.in_ok-next.next c.in_ok-next.ensures in
    omega (arith, next_within c.args.s.now c.args.at c.in_ok-next.next first.0 first.1)

pub returns-then-s-next-lt12 : goal.returns-then-s-next-lt12
returns-then-s-next-lt12 c =
    let first = some_end _ _ c.in_ok-next.next c.in_ok-next.ensures in
    record_cut c.args.s.now c.args.at c.in_ok-next.next first.0 first.1 (omega arith)

pub overflow_add-next : goal.overflow_add-next
overflow_add-next c =
    let first = some_end _ _ c.in_ok-next.next c.in_ok-next.ensures in
    omega (arith, next_within c.args.s.now c.args.at c.in_ok-next.next first.0 first.1)

pub argument_end-requires-2 : goal.argument_end-requires-2
argument_end-requires-2 c =
    let first = some_end _ _ c.in_ok-next.next c.in_ok-next.ensures in
    omega (arith, next_within c.args.s.now c.args.at c.in_ok-next.next first.0 first.1)

pub returns : goal.returns
returns c =
    let s = c.args.s.now in
    let at = c.args.at in
    let next = c.in_ok-next.next in
    let first = some_end _ _ next c.in_ok-next.ensures in
    header_end s at next first.0 first.1 (omega (arith, next_within s at next first.0 first.1)) _ c.argument_end-2.ensures
