-- `lookup::get_param` meets its contract. Assumes nothing.
use Rattle.format.specs.Lending.{head_lent}
use Rattle.format.specs.LookingUp.{nth_header}
use Rattle.store_check.proofs.HeldDecided.{held_total}
use Rattle.lookup_nth.specs.Listed.{params_of}
use Rattle.lookup_nth.proofs.NthElement.{entries_shaped, headers_shaped, nth_entry}
use Rattle.lookup_named.specs.HeadersNamed.{headers_named}
use Rattle.lookup.proofs.NthNamed.{nth_param, no_named_param, named_params}
use Rattle.lookup.proofs.get_param.Goals as goal

pub nth-requires : goal.nth-requires
nth-requires c =
    let args = c.args in
    let held = held_total (head_lent args.m args.head.now) in
    headers_shaped (headers_named held.0 args.name.now) _ _ (c.headers_named.ensures held.0 held.1)

pub returns-in_err-header : goal.returns-in_err-header
returns-in_err-header c =
    rw c.from_residual.ensures
    (λ o held. no_named_param o c.args.name.now _ _ c.args.k (c.headers_named.ensures o held) c.args.n c.in_err-header.ensures)

pub nth-requires-2 : goal.nth-requires-2
nth-requires-2 c =
    let args = c.args in
    let held = held_total (head_lent args.m args.head.now) in
    entries_shaped (params_of (nth_header held.0 args.name.now args.k)) _ _
    (named_params held.0 args.name.now _ _ args.k (c.headers_named.ensures held.0 held.1) c.in_ok-header.header c.in_ok-header.ensures)

pub returns : goal.returns
returns c =
    let args = c.args in
    λ o held. rw (nth_param o args.name.now args.k args.n)
    (nth_entry (params_of (nth_header o args.name.now args.k)) _ _
    (named_params o args.name.now _ _ args.k (c.headers_named.ensures o held) c.in_ok-header.header c.in_ok-header.ensures)
    args.n _ c.nth-2.ensures)
