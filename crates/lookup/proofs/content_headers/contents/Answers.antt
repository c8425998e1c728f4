-- `lookup::content_headers::contents` meets its contract. Assumes nothing.
use mathlib.Core.Path.{sym, ◌∙◌}
use Prim.Native.Nat.{◌+◌, ◌≤◌}
use native.Mathlib.Omega.{arith}
use lib.ListN.{length}
use Rattle.store_check.proofs.HeldCases.{used_within}
use Rattle.lookup.proofs.ContentsHeld.{no_contents, contents_listed}
use Rattle.lookup.proofs.content_headers.contents.Goals as goal
use Rattle.lookup.proofs.content_headers.contents.Goals.{Else-not-message_holds}

within : (c : Else-not-message_holds) → 256 + (c.args.m.headerlen + c.args.m.contentlen) ≤ length c.args.head.now
within c =
    let args = c.args in
    used_within args.m args.head.now (sym c.message_holds.ensures ∙ c.if-not-message_holds.false)

pub returns-then-not-message_holds : goal.returns-then-not-message_holds
returns-then-not-message_holds c =
    let args = c.args in
    no_contents args.m args.head.now (sym c.message_holds.ensures ∙ c.if-not-message_holds.true)

pub overflow_add-from : goal.overflow_add-from
overflow_add-from c = omega (arith, within (goal.at.overflow_add-from c).Else-not-message_holds)

pub overflow_add-to : goal.overflow_add-to
overflow_add-to c = omega (arith, within (goal.at.overflow_add-to c).Else-not-message_holds)

pub slice_bounds-result-end-2 : goal.slice_bounds-result-end-2
slice_bounds-result-end-2 c = omega (arith, within (goal.at.slice_bounds-result-end-2 c).Else-not-message_holds)

pub returns : goal.returns
returns c =
    let args = c.args in
    contents_listed args.m args.head.now (sym c.message_holds.ensures ∙ c.if-not-message_holds.false)
