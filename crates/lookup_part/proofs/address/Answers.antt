-- `lookup_part::address` meets its contract. Assumes nothing.
use mathlib.Core.Path.{refl}
use native.Mathlib.Omega.{arith}
use Rattle.lookup_part.proofs.AddressSigns.{span_absent, span_there}
use Rattle.lookup_part.proofs.address.Goals as goal

pub returns-in_err-from : goal.returns-in_err-from
returns-in_err-from c = rw c.from_residual.ensures (span_absent c.args.value.now c.in_err-from.ensures)

pub slice_bounds-result-count : goal.slice_bounds-result-count
slice_bounds-result-count c =
    let r = c.in_ok-from.field-0 in
    omega (arith, (span_there c.args.value.now r.from r.to c.in_ok-from.ensures).ends)

pub slice_bounds-result-start : goal.slice_bounds-result-start
slice_bounds-result-start c =
    let r = c.in_ok-from.field-0 in
    let s = span_there c.args.value.now r.from r.to c.in_ok-from.ensures in
    omega (arith, s.ends, s.within)

pub slice_bounds-result-end : goal.slice_bounds-result-end
slice_bounds-result-end c =
    let r = c.in_ok-from.field-0 in
    omega (arith, (span_there c.args.value.now r.from r.to c.in_ok-from.ensures).within)

pub returns : goal.returns
returns c =
    let r = c.in_ok-from.field-0 in
    let s = span_there c.args.value.now r.from r.to c.in_ok-from.ensures in
    rw (s.is_address, s.there) refl
