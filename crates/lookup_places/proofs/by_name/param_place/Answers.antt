-- `lookup_places::by_name::param_place` meets its contract. Assumes nothing.
use Prim.Native.Nat.{◌+◌, ◌≤◌}
use native.Mathlib.Omega.{arith}
use lib.ListN.{length, drop}
use Rattle.format.specs.Lending.{head_lent}
use Rattle.format.specs.LookingUp.{nth_header, get_param}
use Rattle.store_entries.specs.Stored.{name_length, value_length, tail_length}
use Rattle.store_check.proofs.HeldDecided.{held_total}
use Rattle.lookup_places.specs.NamedPlaces.{header_place}
use Rattle.lookup_places.proofs.HeaderPlaces.{spot_size, spot_shaped, spot_no_param, spot_param}
use Rattle.lookup_places.proofs.by_name.param_place.Goals as goal
use Rattle.lookup_places.proofs.by_name.param_place.Goals.{In-Some}

-- the header is within the store
within : (c : In-Some) → c.in-Some.at + (16 + (name_length (drop c.in-Some.at c.args.head.now)
    + (value_length (drop c.in-Some.at c.args.head.now) + tail_length (drop c.in-Some.at c.args.head.now))))
    ≤ length c.args.head.now
within c =
    let args = c.args in
    let held = held_total (head_lent args.m args.head.now) in
    spot_size args.head.now (header_place held.0 args.name.now args.k) c.in-Some.at (nth_header held.0 args.name.now args.k) (c.in-Some.ensures held.0 held.1)

pub returns-in_default : goal.returns-in_default
unfolding get_param
returns-in_default c =
    let args = c.args in
    λ o held. spot_no_param args.head.now _ args.n (nth_header o args.name.now args.k) (c.in_default.ensures o held)

pub name_len-requires : goal.name_len-requires
name_len-requires c = omega (arith, within (goal.at.name_len-requires c).In-Some)

pub value_len-requires : goal.value_len-requires
value_len-requires c = omega (arith, within (goal.at.value_len-requires c).In-Some)

pub overflow_add-from-3 : goal.overflow_add-from-3
overflow_add-from-3 c = omega (arith, within (goal.at.overflow_add-from-3 c).In-Some, c.name_len.ensures.0, c.value_len.ensures.0)

pub tail_len-requires : goal.tail_len-requires
tail_len-requires c = omega (arith, within (goal.at.tail_len-requires c).In-Some)

pub overflow_add-to : goal.overflow_add-to
overflow_add-to c = omega (arith, within (goal.at.overflow_add-to c).In-Some, c.name_len.ensures.0, c.value_len.ensures.0, c.tail_len.ensures.0)

pub param_count-requires : goal.param_count-requires
param_count-requires c = omega (arith, within (goal.at.param_count-requires c).In-Some)

pub nth_pair-requires : goal.nth_pair-requires
nth_pair-requires c =
    let args = c.args in
    let held = held_total (head_lent args.m args.head.now) in
    let n = c.name_len.ensures.0 in
    let v = c.value_len.ensures.0 in
    let t = c.tail_len.ensures.0 in (
      omega arith,
      omega (arith, within (goal.at.nth_pair-requires c).In-Some, n, v, t),
      rw (c.param_count.ensures.0, t, n, v)
          (spot_shaped args.head.now (header_place held.0 args.name.now args.k) c.in-Some.at (nth_header held.0 args.name.now args.k) (c.in-Some.ensures held.0 held.1)),
    )

pub returns : goal.returns
unfolding get_param
returns c =
    let args = c.args in
    λ o held.
    spot_param args.head.now _ c.in-Some.at args.n (nth_header o args.name.now args.k) (c.in-Some.ensures o held)
    c.nth_pair.result _ _ _ _ c.name_len.ensures.0 c.value_len.ensures.0 c.tail_len.ensures.0 c.param_count.ensures.0 c.nth_pair.ensures
