-- `lookup_places::spots::nth_pair` meets its contract. Assumes nothing.
use Prim.Native.Nat.{◌+◌, ◌≤◌}
use native.Mathlib.Omega.{arith}
use lib.ListN.{length}
use Rattle.lookup_places.proofs.EntryPlaces.{pair_absent, pair_found, passed_within}
use Rattle.lookup_places.proofs.spots.nth_pair.Goals as goal
use Rattle.lookup_places.proofs.spots.nth_pair.Goals.{After-pass_first}

within : (c : After-pass_first) → c.args.from + c.pass_first.result + 16 ≤ length c.args.s.now
within c =
    let args = c.args in
    passed_within args.s.now args.from args.to args.count args.n c.pass_first.result c.requires.0 c.requires.1 c.requires.2 (omega arith) c.pass_first.ensures

pub returns-then-count-n : goal.returns-then-count-n
returns-then-count-n c =
    let args = c.args in
    λ es l. pair_absent args.s.now args.from args.to args.count args.n c.requires.0 c.requires.1 es l (omega arith)

pub pass_first-requires : goal.pass_first-requires
pass_first-requires c = (c.requires.2, omega arith)

pub overflow_add-at : goal.overflow_add-at
overflow_add-at c = omega (arith, within (goal.at.overflow_add-at c).After-pass_first)

pub overflow_add-result : goal.overflow_add-result
overflow_add-result c = omega (arith, within (goal.at.overflow_add-result c).After-pass_first)

pub name_len-requires : goal.name_len-requires
name_len-requires c = within (goal.at.name_len-requires c).After-pass_first

pub value_len-requires : goal.value_len-requires
value_len-requires c = within (goal.at.value_len-requires c).After-pass_first

pub returns : goal.returns
returns c =
    let args = c.args in
    λ es l.
    pair_found args.s.now args.from args.to args.count args.n c.requires.0 c.requires.1 es l (omega arith) c.pass_first.result _ _ c.pass_first.ensures
    (omega (arith, within (goal.at.returns c).After-pass_first)) c.name_len.ensures.0 c.value_len.ensures.0
