-- `lookup_places::standing::alone_param_place` meets its contract. Assumes nothing.
use mathlib.Core.Path.{◌≡◌, sym, ◌∙◌}
use mathlib.Core.Bool.{true}
use native.Mathlib.Omega.{arith}
use Rattle.store_check.specs.Holding.{header_holds}
use Rattle.lookup_places.proofs.There.{no_param_lem, params_within, params_shaped, param_there}
use Rattle.lookup_places.proofs.standing.alone_param_place.Goals as goal
use Rattle.lookup_places.proofs.standing.alone_param_place.Goals.{Else-not-header_holds}

holds : (c : Else-not-header_holds) → header_holds c.args.h c.args.store.now ≡ true
holds c = sym c.header_holds.ensures ∙ c.if-not-header_holds.false

pub returns-then-not-header_holds : goal.returns-then-not-header_holds
returns-then-not-header_holds c =
    let args = c.args in
    no_param_lem args.h args.store.now (sym c.header_holds.ensures ∙ c.if-not-header_holds.true) args.n

pub overflow_add-h : goal.overflow_add-h
overflow_add-h c =
    let args = c.args in
    let within = params_within args.h args.store.now (holds (goal.at.overflow_add-h c).Else-not-header_holds) in
    omega (arith, within.0, within.1)

pub nth_pair-requires : goal.nth_pair-requires
nth_pair-requires c =
    let args = c.args in
    let held = holds (goal.at.nth_pair-requires c).Else-not-header_holds in
    let within = params_within args.h args.store.now held in
    (within.0, within.1, params_shaped args.h args.store.now held)

pub returns : goal.returns
returns c =
    let args = c.args in
    param_there args.h args.store.now (holds (goal.at.returns c).Else-not-header_holds) args.n c.nth_pair.result c.nth_pair.ensures
