-- `store_entries::groups::find_group` meets its contract: names before this one are passed over, then this very one. Assumes nothing.
use mathlib.Core.Path.{ap, ◌∙◌}
use mathlib.Core.Bool.{true, false}
use native.Mathlib.Omega.{arith}
use borrow.Author.Rules.{rules}
use lib.ListN.{length}
use Rattle.format.specs.Bytes.{total, same, before}
use Rattle.store_entries.specs.Stored.{stored_size}
use Rattle.store_entries.specs.Passing.{is_passed, passed_over, whilst}
use Rattle.store_entries.proofs.EntryWalk.{rest}
use Rattle.store_entries.proofs.groups.find_group.Goals as goal

pub overflow_sub-count : goal.overflow_sub-count
unfolding is_passed
overflow_sub-count c =
    let s = c.args.s.now in
    let name = c.args.name.now in
    let low = c.pass-low.ensures (λ other. before other name) (record { says = λ x b k. search rules }) in
    omega (arith, (rest (passed_over false name) c.args.count s _ _ c.requires low.bytes low.entries).within)

pub pass-own-requires-clause-shaped : goal.pass-own-requires-clause-shaped
unfolding is_passed
pass-own-requires-clause-shaped c =
    let s = c.args.s.now in
    let name = c.args.name.now in
    let low = c.pass-low.ensures (λ other. before other name) (record { says = λ x b k. search rules }) in
    (rest (passed_over false name) c.args.count s _ _ c.requires low.bytes low.entries).left

pub returns : goal.returns
unfolding is_passed
returns c =
    let s = c.args.s.now in
    let name = c.args.name.now in
    let low = c.pass-low.ensures (λ other. before other name) (record { says = λ x b k. search rules }) in
    let own = c.pass-own.ensures (λ other. same name other) (record { says = λ x b k. search rules }) in
    let left = rest (passed_over false name) c.args.count s _ _ c.requires low.bytes low.entries in
    let kept = ap (whilst (passed_over true name)) left.entries in
    record { place = low.bytes; bytes = own.bytes ∙ ap (total stored_size) kept; entries = own.entries ∙ ap length kept }
