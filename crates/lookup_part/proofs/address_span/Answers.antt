-- `lookup_part::address_span` meets its contract. Assumes nothing.
use native.Mathlib.Omega.{arith}
use Rattle.lookup_part.proofs.AddressSigns.{not_opened, opening_within, closed_within, not_closed, closed_at}
use Rattle.lookup_part.proofs.address_span.Goals as goal

pub returns-in_err-at : goal.returns-in_err-at
returns-in_err-at c = rw c.from_residual.ensures (not_opened c.args.value.now c.in_err-at.ensures)

pub overflow_add-from : goal.overflow_add-from
overflow_add-from c = omega (arith, opening_within c.args.value.now c.in_ok-at.at c.in_ok-at.ensures)

pub slice_bounds-rest-count : goal.slice_bounds-rest-count
slice_bounds-rest-count c = omega (arith, opening_within c.args.value.now c.in_ok-at.at c.in_ok-at.ensures)

pub slice_bounds-rest-start : goal.slice_bounds-rest-start
slice_bounds-rest-start c = omega (arith, opening_within c.args.value.now c.in_ok-at.at c.in_ok-at.ensures)

pub returns-then-len-rest : goal.returns-then-len-rest
returns-then-len-rest c =
    not_closed c.args.value.now c.in_ok-at.at c.in_ok-at.ensures c.find_byte-len.result c.find_byte-len.ensures c.if-len-rest.true

pub overflow_add-result : goal.overflow_add-result
overflow_add-result c =
    let v = c.args.value.now in
    let at = c.in_ok-at.at in
    omega (arith, opening_within v at c.in_ok-at.ensures, closed_within v at c.in_ok-at.ensures c.find_byte-len.result c.find_byte-len.ensures)

pub returns : goal.returns
returns c =
    closed_at c.args.value.now c.in_ok-at.at c.in_ok-at.ensures c.find_byte-len.result c.find_byte-len.ensures c.if-len-rest.false
