-- `report::telling::header_name` meets its contract. Assumes nothing.
use native.Mathlib.Omega.{arith}
use Rattle.store_check.proofs.HeldCases.{used_within}
use Rattle.report.proofs.EntryNames.{headers_shaped, name_none, name_some}
use Rattle.report.proofs.telling.header_name.Goals as goal

pub overflow_add-to : goal.overflow_add-to
overflow_add-to c = omega (arith, used_within c.args.m c.args.head.now c.requires)

pub slice_bounds-headers-end : goal.slice_bounds-headers-end
slice_bounds-headers-end c = omega (arith, used_within c.args.m c.args.head.now c.requires)

pub nth-requires : goal.nth-requires
nth-requires c = headers_shaped c.args.m c.args.head.now c.requires

pub returns-in_err-header : goal.returns-in_err-header
returns-in_err-header c = rw c.from_residual.ensures (name_none c.args.m c.args.head.now c.requires c.args.n c.in_err-header.ensures)

pub returns : goal.returns
returns c = name_some c.args.m c.args.head.now c.requires c.args.n c.in_ok-header.header c.in_ok-header.ensures
