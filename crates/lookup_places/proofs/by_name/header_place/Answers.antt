-- `lookup_places::by_name::header_place` meets its contract. Each answer goes by the tests that led to it. Assumes nothing.
use Prim.Native.Nat.{◌+◌, ◌≤◌}
use mathlib.Core.Path.{◌≡◌, sym, ◌∙◌}
use mathlib.Core.Bool.{true}
use native.Mathlib.Omega.{arith}
use lib.ListN.{length}
use Rattle.format.specs.Characters.{is_utf8}
use Rattle.store_check.specs.Holding.{message_holds}
use Rattle.lookup_named.proofs.Grouping.{named_within}
use Rattle.lookup_places.proofs.EntryPlaces.{passed_within}
use Rattle.lookup_places.proofs.NamedSpots.{no_message, no_name, group_shaped, too_few, nth_found}
use Rattle.lookup_places.proofs.by_name.header_place.Goals as goal
use Rattle.lookup_places.proofs.by_name.header_place.Goals.{Else-not-message_holds, Else-not-is_utf8, After-headers_of-g, then-not-message_holds-via-then-not-message_holds, then-not-message_holds-via-else-not-message_holds+then-not-is_utf8}

-- a message is held, and the name is UTF-8
holds : (c : Else-not-message_holds) → message_holds c.args.m c.args.head.now ≡ true
holds c = sym c.message_holds.ensures ∙ c.if-not-message_holds.false

utf8 : (c : Else-not-is_utf8) → is_utf8 c.args.name.now ≡ true
utf8 c = sym c.is_utf8.ensures ∙ c.if-not-is_utf8.false

within : (c : After-headers_of-g) → 256 + (c.headers_of-g.result.at + c.headers_of-g.result.size) ≤ length c.args.head.now
within c =
    let holds : message_holds c.args.m c.args.head.now ≡ true = sym c.message_holds.ensures ∙ c.if-not-message_holds.false in
    let args = c.args in
    named_within args.m args.head.now args.name.now _ _ _ holds c.headers_of-g.ensures

pub returns-then-not-message_holds : goal.returns-then-not-message_holds
returns-then-not-message_holds c =
    let args = c.args in
    elim c.then-not-message_holds.branch [
      | then-not-message_holds-via-then-not-message_holds w ↦ no_message args.m args.head.now args.name.now args.n (sym c.message_holds.ensures ∙ w.if-not-message_holds.true)
      | then-not-message_holds-via-else-not-message_holds+then-not-is_utf8 w ↦ λ o _. no_name args.m args.head.now args.name.now args.n (sym w.is_utf8.ensures ∙ w.if-not-is_utf8.true) o
    ]

pub returns-then-g-n : goal.returns-then-g-n
returns-then-g-n c =
    let args = c.args in
    too_few args.m args.head.now args.name.now args.n _ _ _ (holds (goal.at.returns-then-g-n c).Else-not-message_holds) (utf8 (goal.at.returns-then-g-n c).Else-not-is_utf8) c.headers_of-g.ensures (omega arith)

pub overflow_add-from : goal.overflow_add-from
overflow_add-from c = omega (arith, within (goal.at.overflow_add-from c).After-headers_of-g)

pub overflow_add-to : goal.overflow_add-to
overflow_add-to c = omega (arith, within (goal.at.overflow_add-to c).After-headers_of-g)

pub slice_bounds-pass_first-end : goal.slice_bounds-pass_first-end
slice_bounds-pass_first-end c = omega (arith, within (goal.at.slice_bounds-pass_first-end c).After-headers_of-g)

pub pass_first-requires : goal.pass_first-requires
pass_first-requires c =
    let args = c.args in (
      group_shaped args.m args.head.now args.name.now args.n _ _ _ (holds (goal.at.pass_first-requires c).Else-not-message_holds) (utf8 (goal.at.pass_first-requires c).Else-not-is_utf8) c.headers_of-g.ensures,
      omega arith,
    )

pub overflow_add-result : goal.overflow_add-result
overflow_add-result c =
    let args = c.args in
    omega (
      arith,
      passed_within args.head.now (256 + c.headers_of-g.result.at) (256 + c.headers_of-g.result.at + c.headers_of-g.result.size) c.headers_of-g.result.many args.n c.pass_first.result
          (omega arith) (omega (arith, within (goal.at.overflow_add-result c).After-headers_of-g))
          (group_shaped args.m args.head.now args.name.now args.n _ _ _ (holds (goal.at.overflow_add-result c).Else-not-message_holds) (utf8 (goal.at.overflow_add-result c).Else-not-is_utf8) c.headers_of-g.ensures)
          (omega arith) c.pass_first.ensures,
    )

pub returns : goal.returns
returns c =
    let args = c.args in
    nth_found args.m args.head.now args.name.now args.n _ _ _ (holds (goal.at.returns c).Else-not-message_holds) (utf8 (goal.at.returns c).Else-not-is_utf8) c.headers_of-g.ensures (omega arith) _ c.pass_first.ensures
