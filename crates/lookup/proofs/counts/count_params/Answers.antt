-- `lookup::counts::count_params` meets its contract. Assumes nothing.
use mathlib.Core.Path.{◌≡◌, sym, ◌∙◌}
use mathlib.Core.Bool.{true}
use native.Mathlib.Omega.{arith}
use Rattle.store_check.specs.Holding.{message_holds}
use Rattle.store_check.proofs.HeldCases.{used_within}
use Rattle.lookup.proofs.Counting.{none_params, headers_few, headers_in_order, params_counted}
use Rattle.lookup.proofs.counts.count_params.Goals as goal
use Rattle.lookup.proofs.counts.count_params.Goals.{Else-not-message_holds}

holds : (c : Else-not-message_holds) → message_holds c.args.m c.args.head.now ≡ true
holds c = sym c.message_holds.ensures ∙ c.if-not-message_holds.false

pub returns-then-not-message_holds : goal.returns-then-not-message_holds
returns-then-not-message_holds c =
    let args = c.args in
    none_params args.m args.head.now (sym c.message_holds.ensures ∙ c.if-not-message_holds.true)

pub overflow_add-to : goal.overflow_add-to
overflow_add-to c =
    let args = c.args in
    omega (arith, used_within args.m args.head.now (holds (goal.at.overflow_add-to c).Else-not-message_holds))

pub slice_bounds-headers-end : goal.slice_bounds-headers-end
slice_bounds-headers-end c =
    let args = c.args in
    omega (arith, used_within args.m args.head.now (holds (goal.at.slice_bounds-headers-end c).Else-not-message_holds))

pub count_params-requires : goal.count_params-requires
count_params-requires c =
    let args = c.args in
    (headers_in_order args.m args.head.now (holds (goal.at.count_params-requires c).Else-not-message_holds), headers_few args.m args.head.now (holds (goal.at.count_params-requires c).Else-not-message_holds))

pub returns : goal.returns
returns c =
    let args = c.args in
    params_counted args.m args.head.now (holds (goal.at.returns c).Else-not-message_holds) c.count_params.result c.count_params.ensures
