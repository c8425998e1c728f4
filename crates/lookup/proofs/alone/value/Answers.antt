-- `lookup::alone::value` meets its contract. Assumes nothing.
use mathlib.Core.Path.{◌≡◌, sym, ◌∙◌}
use mathlib.Core.Bool.{true}
use native.Mathlib.Omega.{arith}
use Rattle.store_check.specs.Holding.{header_holds}
use Rattle.lookup.proofs.LoneHeader.{no_value, value_within, size_within, value_is}
use Rattle.lookup.proofs.alone.value.Goals as goal
use Rattle.lookup.proofs.alone.value.Goals.{Else-not-header_holds}

holds : (c : Else-not-header_holds) → header_holds c.args.h c.args.store.now ≡ true
holds c = sym c.header_holds.ensures ∙ c.if-not-header_holds.false

pub returns-then-not-header_holds : goal.returns-then-not-header_holds
returns-then-not-header_holds c =
    no_value c.args.h c.args.store.now (sym c.header_holds.ensures ∙ c.if-not-header_holds.true)

pub overflow_add-to : goal.overflow_add-to
overflow_add-to c =
    let args = c.args in
    omega (arith, value_within args.h args.store.now (holds (goal.at.overflow_add-to c).Else-not-header_holds), size_within args.h args.store.now (holds (goal.at.overflow_add-to c).Else-not-header_holds))

pub slice_bounds-result-end : goal.slice_bounds-result-end
slice_bounds-result-end c =
    let args = c.args in
    omega (arith, value_within args.h args.store.now (holds (goal.at.slice_bounds-result-end c).Else-not-header_holds), size_within args.h args.store.now (holds (goal.at.slice_bounds-result-end c).Else-not-header_holds))

pub returns : goal.returns
returns c = value_is c.args.h c.args.store.now (holds (goal.at.returns c).Else-not-header_holds)
