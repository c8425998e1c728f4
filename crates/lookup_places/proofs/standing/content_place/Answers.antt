-- `lookup_places::standing::content_place` meets its contract. Assumes nothing.
use mathlib.Core.Path.{◌≡◌, sym, ◌∙◌}
use mathlib.Core.Bool.{true}
use native.Mathlib.Omega.{arith}
use Rattle.store_check.specs.Holding.{message_holds}
use Rattle.lookup_places.proofs.There.{no_content, contents_within, contents_shaped, content_there}
use Rattle.lookup_places.proofs.standing.content_place.Goals as goal
use Rattle.lookup_places.proofs.standing.content_place.Goals.{Else-not-message_holds}

holds : (c : Else-not-message_holds) → message_holds c.args.m c.args.head.now ≡ true
holds c = sym c.message_holds.ensures ∙ c.if-not-message_holds.false

pub returns-then-not-message_holds : goal.returns-then-not-message_holds
returns-then-not-message_holds c =
    let args = c.args in
    no_content args.m args.head.now (sym c.message_holds.ensures ∙ c.if-not-message_holds.true) args.n

pub overflow_add-from : goal.overflow_add-from
overflow_add-from c =
    let args = c.args in
    omega (arith, contents_within args.m args.head.now (holds (goal.at.overflow_add-from c).Else-not-message_holds))

pub overflow_add-to : goal.overflow_add-to
overflow_add-to c =
    let args = c.args in
    omega (arith, contents_within args.m args.head.now (holds (goal.at.overflow_add-to c).Else-not-message_holds))

pub nth_pair-requires : goal.nth_pair-requires
nth_pair-requires c =
    let args = c.args in
    let held = holds (goal.at.nth_pair-requires c).Else-not-message_holds in
    (omega arith, contents_within args.m args.head.now held, contents_shaped args.m args.head.now held)

pub returns : goal.returns
returns c =
    let args = c.args in
    content_there args.m args.head.now (holds (goal.at.returns c).Else-not-message_holds) args.n c.nth_pair.result c.nth_pair.ensures
