-- `lookup_places::row_count` meets its contract. Assumes nothing.
use mathlib.Core.Path.{refl}
use Prim.Native.Nat.{◌+◌, ◌≤◌}
use native.Mathlib.Omega.{arith}
use lib.ListN.{length}
use Rattle.store_check.proofs.HeldCases.{used_within}
use Rattle.lookup.proofs.Counting.{headers_few, headers_in_order}
use Rattle.lookup_places.specs.Fronts.{rows_held}
use Rattle.lookup_places.proofs.PlacesExits.{few}
use Rattle.lookup_places.proofs.row_count.Goals as goal
use Rattle.lookup_places.proofs.row_count.Goals.{Start}

within : (c : Start) → 256 + (c.args.m.headerlen + c.args.m.contentlen) ≤ length c.args.head.now
within c = used_within c.args.m c.args.head.now c.requires

pub overflow_add-to : goal.overflow_add-to
overflow_add-to c = omega (arith, within (goal.at.overflow_add-to c).Start)

pub slice_bounds-headers-end : goal.slice_bounds-headers-end
slice_bounds-headers-end c = omega (arith, within (goal.at.slice_bounds-headers-end c).Start)

pub count_params-requires : goal.count_params-requires
count_params-requires c =
    (headers_in_order c.args.m c.args.head.now c.requires, headers_few c.args.m c.args.head.now c.requires)

pub overflow_add-result : goal.overflow_add-result
unfolding rows_held
overflow_add-result c =
    omega (arith, few c.args.m c.args.head.now c.requires, c.count_params.ensures)

pub overflow_add-result-2 : goal.overflow_add-result-2
unfolding rows_held
overflow_add-result-2 c =
    omega (arith, few c.args.m c.args.head.now c.requires, c.count_params.ensures)

pub returns : goal.returns
unfolding rows_held
returns c = rw c.count_params.ensures refl
