-- `lookup_named::headers_named` meets its contract. Assumes nothing.
use mathlib.Core.Path.{◌≡◌, sym, ◌∙◌}
use mathlib.Core.Bool.{true}
use Prim.Native.Nat.{◌+◌, ◌≤◌}
use native.Mathlib.Omega.{arith}
use lib.ListN.{length}
use Rattle.format.specs.Characters.{is_utf8}
use Rattle.store_check.specs.Holding.{message_holds}
use Rattle.lookup_named.proofs.Grouping.{none_unheld, none_unnamed, named_within, named_listed}
use Rattle.lookup_named.proofs.headers_named.Goals as goal
use Rattle.lookup_named.proofs.headers_named.Goals.{Else-not-message_holds, Else-not-is_utf8, After-headers_of-g, then-not-message_holds-via-then-not-message_holds, then-not-message_holds-via-else-not-message_holds+then-not-is_utf8}

holds : (c : Else-not-message_holds) → message_holds c.args.m c.args.head.now ≡ true
holds c = sym c.message_holds.ensures ∙ c.if-not-message_holds.false

utf8 : (c : Else-not-is_utf8) → is_utf8 c.args.name.now ≡ true
utf8 c = sym c.is_utf8.ensures ∙ c.if-not-is_utf8.false

within : (c : After-headers_of-g) → 256 + (c.headers_of-g.result.at + c.headers_of-g.result.size) ≤ length c.args.head.now
within c =
    let holds : message_holds c.args.m c.args.head.now ≡ true = sym c.message_holds.ensures ∙ c.if-not-message_holds.false in
    let args = c.args in
    named_within args.m args.head.now args.name.now _ _ _ holds c.headers_of-g.ensures

pub returns-then-not-message_holds : goal.returns-then-not-message_holds
returns-then-not-message_holds c =
    let args = c.args in
    elim c.then-not-message_holds.branch [
      | then-not-message_holds-via-then-not-message_holds w ↦ none_unheld args.m args.head.now args.name.now (sym c.message_holds.ensures ∙ w.if-not-message_holds.true)
      | then-not-message_holds-via-else-not-message_holds+then-not-is_utf8 w ↦ λ o _. none_unnamed args.name.now (sym w.is_utf8.ensures ∙ w.if-not-is_utf8.true) o
    ]

pub overflow_add-from : goal.overflow_add-from
overflow_add-from c = omega (arith, within (goal.at.overflow_add-from c).After-headers_of-g)

pub overflow_add-to : goal.overflow_add-to
overflow_add-to c = omega (arith, within (goal.at.overflow_add-to c).After-headers_of-g)

pub slice_bounds-result-end-2 : goal.slice_bounds-result-end-2
slice_bounds-result-end-2 c = omega (arith, within (goal.at.slice_bounds-result-end-2 c).After-headers_of-g)

pub returns : goal.returns
returns c =
    let args = c.args in
    named_listed args.m args.head.now args.name.now _ _ _ (holds (goal.at.returns c).Else-not-message_holds) c.headers_of-g.ensures (utf8 (goal.at.returns c).Else-not-is_utf8)
