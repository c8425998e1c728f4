-- `lookup::get_header_value` meets its contract. Assumes nothing.
use Rattle.format.specs.Lending.{head_lent}
use Rattle.store_check.proofs.HeldDecided.{held_total}
use Rattle.lookup_nth.proofs.NthElement.{headers_shaped}
use Rattle.lookup_named.specs.HeadersNamed.{headers_named}
use Rattle.lookup.proofs.NthNamed.{no_named_value, named_value}
use Rattle.lookup.proofs.get_header_value.Goals as goal

pub nth-requires : goal.nth-requires
nth-requires c =
    let args = c.args in
    let held = held_total (head_lent args.m args.head.now) in
    headers_shaped (headers_named held.0 args.name.now) _ _ (c.headers_named.ensures held.0 held.1)

pub returns-in_err-header : goal.returns-in_err-header
returns-in_err-header c =
    rw c.from_residual.ensures
    (λ o held. no_named_value o c.args.name.now _ _ c.args.n (c.headers_named.ensures o held) c.in_err-header.ensures)

pub returns : goal.returns
returns c =
    λ o held. named_value o c.args.name.now _ _ c.args.n (c.headers_named.ensures o held) c.in_ok-header.header c.in_ok-header.ensures
