-- `lookup::alone::params` meets its contract. Assumes nothing.
use mathlib.Core.Path.{◌≡◌, sym, ◌∙◌}
use mathlib.Core.Bool.{true}
use native.Mathlib.Omega.{arith}
use Rattle.store_check.specs.Holding.{header_holds}
use Rattle.lookup.proofs.LoneHeader.{no_params, value_within, size_within, params_listed}
use Rattle.lookup.proofs.alone.params.Goals as goal
use Rattle.lookup.proofs.alone.params.Goals.{Else-not-header_holds}

holds : (c : Else-not-header_holds) → header_holds c.args.h c.args.store.now ≡ true
holds c = sym c.header_holds.ensures ∙ c.if-not-header_holds.false

pub returns-then-not-header_holds : goal.returns-then-not-header_holds
returns-then-not-header_holds c =
    let args = c.args in
    no_params args.h args.store.now (sym c.header_holds.ensures ∙ c.if-not-header_holds.true)

pub overflow_add-from : goal.overflow_add-from
overflow_add-from c =
    let args = c.args in
    omega (arith, value_within args.h args.store.now (holds (goal.at.overflow_add-from c).Else-not-header_holds), size_within args.h args.store.now (holds (goal.at.overflow_add-from c).Else-not-header_holds))

pub slice_bounds-result-count : goal.slice_bounds-result-count
slice_bounds-result-count c =
    let args = c.args in
    omega (arith, value_within args.h args.store.now (holds (goal.at.slice_bounds-result-count c).Else-not-header_holds))

pub slice_bounds-result-start : goal.slice_bounds-result-start
slice_bounds-result-start c =
    let args = c.args in
    omega (arith, value_within args.h args.store.now (holds (goal.at.slice_bounds-result-start c).Else-not-header_holds))

pub slice_bounds-result-end-2 : goal.slice_bounds-result-end-2
slice_bounds-result-end-2 c =
    let args = c.args in
    omega (arith, size_within args.h args.store.now (holds (goal.at.slice_bounds-result-end-2 c).Else-not-header_holds))

pub returns : goal.returns
returns c =
    let args = c.args in
    params_listed args.h args.store.now (holds (goal.at.returns c).Else-not-header_holds)
