-- `lookup_places::by_name::value_place` meets its contract. Assumes nothing.
use Prim.Native.Nat.{◌+◌, ◌≤◌}
use native.Mathlib.Omega.{arith}
use lib.ListN.{length, drop}
use Rattle.format.specs.Lending.{head_lent}
use Rattle.format.specs.LookingUp.{nth_header, get_header_value}
use Rattle.store_entries.specs.Stored.{name_length}
use Rattle.store_check.proofs.HeldDecided.{held_total}
use Rattle.lookup_places.specs.NamedPlaces.{header_place}
use Rattle.lookup_places.proofs.HeaderPlaces.{spot_size, spot_no_value, spot_value}
use Rattle.lookup_places.proofs.by_name.value_place.Goals as goal
use Rattle.lookup_places.proofs.by_name.value_place.Goals.{In-Some}

-- the header is within the store
within : (c : In-Some) → c.in-Some.at + 16 + name_length (drop c.in-Some.at c.args.head.now) ≤ length c.args.head.now
within c =
    let args = c.args in
    let held = held_total (head_lent args.m args.head.now) in
    omega (arith, spot_size args.head.now (header_place held.0 args.name.now args.n) c.in-Some.at (nth_header held.0 args.name.now args.n) (c.in-Some.ensures held.0 held.1))

pub name_len-requires : goal.name_len-requires
name_len-requires c = omega (arith, within (goal.at.name_len-requires c).In-Some)

pub overflow_add-at : goal.overflow_add-at
overflow_add-at c = omega (arith, within (goal.at.overflow_add-at c).In-Some, c.name_len.ensures.0)

pub value_len-requires : goal.value_len-requires
value_len-requires c = omega (arith, within (goal.at.value_len-requires c).In-Some)

pub returns-in-Some : goal.returns-in-Some
unfolding get_header_value
returns-in-Some c =
    let args = c.args in
    rw c.at.ensures
    (λ o held. spot_value args.head.now _ c.in-Some.at (nth_header o args.name.now args.n) (c.in-Some.ensures o held) _ _ c.name_len.ensures.0 c.value_len.ensures.0)

pub returns-in-None : goal.returns-in-None
unfolding get_header_value
returns-in-None c =
    let args = c.args in
    λ o held. spot_no_value args.head.now _ (nth_header o args.name.now args.n) (c.in-None.ensures o held)
