-- `lookup_places::put_rows` meets its contract. The invariant is `Rowed`. Assumes nothing.
use Prim.Native.Nat.{◌+◌, ◌*◌, ◌≤◌}
use native.Mathlib.Omega.{arith}
use lib.ListN.{length, drop}
use Rattle.lookup_places.specs.Fronts.{front_in}
use Rattle.lookup_places.proofs.Fronts.{rowed_start, rowed_end, rowed_front, rowed_numbers, rowed_room, rowed_on}
use Rattle.lookup_places.proofs.put_rows.Goals as goal
use Rattle.lookup_places.proofs.put_rows.Goals.{In-loop-i}

pub loop-i-init : goal.loop-i-init
loop-i-init c =
    rowed_start c.args.s.now c.args.out.now c.args.rows c.requires.0 c.requires.1

-- the next entry is within the store, and its row within the output
module _ (c : In-loop-i) where
  numbers : c.loop-i.at + 16 ≤ length c.args.s.now
  numbers =
      let args = c.args in
      let l = c.loop-i in
      rowed_numbers args.s.now args.out.now args.rows l.out l.at l.i l.invariant (omega arith)

  front : c.loop-i.at + front_in (drop c.loop-i.at c.args.s.now)
      ≤ length c.args.s.now
  front =
      let args = c.args in
      let l = c.loop-i in
      rowed_front args.s.now args.out.now args.rows l.out l.at l.i l.invariant (omega arith)

  room : 4 * c.loop-i.i + 4 ≤ length c.loop-i.out
  room =
      let args = c.args in
      let l = c.loop-i in
      rowed_room args.s.now args.out.now args.rows l.out l.at l.i l.invariant (omega arith)

pub name_len-name-requires : goal.name_len-name-requires
name_len-name-requires c = numbers (goal.at.name_len-name-requires c).In-loop-i

pub value_len-value-requires : goal.value_len-value-requires
value_len-value-requires c = numbers (goal.at.value_len-value-requires c).In-loop-i

pub overflow_mul-i : goal.overflow_mul-i
overflow_mul-i c =
    omega (arith, c.loop-i.invariant.room)

pub overflow_add-at : goal.overflow_add-at
overflow_add-at c = omega (arith, numbers (goal.at.overflow_add-at c).In-loop-i)

pub param_count-requires : goal.param_count-requires
param_count-requires c = numbers (goal.at.param_count-requires c).In-loop-i

pub put_row-requires : goal.put_row-requires
put_row-requires c = room (goal.at.put_row-requires c).In-loop-i

pub overflow_add-at-in-loop-i-3 : goal.overflow_add-at-in-loop-i-3
unfolding front_in
overflow_add-at-in-loop-i-3 c =
    omega (arith, front (goal.at.overflow_add-at-in-loop-i-3 c).In-loop-i, c.name_len-name.ensures.0, c.value_len-value.ensures.0)

pub loop-i-preserved : goal.loop-i-preserved
loop-i-preserved c =
    let args = c.args in
    let l = c.loop-i in
    rowed_on args.s.now args.out.now args.rows l.out l.at l.i l.invariant (omega arith) _ _ _ _ c.name_len-name.ensures.0 c.value_len-value.ensures.0
    c.param_count.ensures.0 c.put_row.ensures

pub returns : goal.returns
returns c =
    let args = c.args in
    let l = c.loop-i in
    rowed_end args.s.now args.out.now args.rows l.out l.at l.i l.invariant (omega arith)
