-- `calls_run::header_call` meets its contract: the header counts as what its record and store in the script hold. Assumes nothing.
use mathlib.Core.Path.{◌∙◌}
use Prim.Native.Nat.{◌+◌, ◌≤◌}
use native.Mathlib.Omega.{arith}
use lib.ListN.{length, drop}
use Rattle.calls_run.proofs.CallRuns.{name_whole, record_within, record_is, store_whole, store_is, header_run}
use Rattle.calls_run.proofs.header_call.Goals as goal
use Rattle.calls_run.proofs.header_call.Goals.{After-behind-next}

pub argument_at-name-requires : goal.argument_at-name-requires
argument_at-name-requires c =
    name_whole c.args.script.now c.args.at c.requires

pub behind-next-requires : goal.behind-next-requires
behind-next-requires c =
    name_whole c.args.script.now c.args.at c.requires

-- the record stands whole behind the name
record_there : (c : After-behind-next) → c.behind-next.result + 12 ≤ length c.args.script.now
record_there c = record_within c.args.script.now c.args.at _ (name_whole c.args.script.now c.args.at c.requires) c.behind-next.ensures c.requires

pub number_at-requires : goal.number_at-requires
number_at-requires c = omega (arith, record_there (goal.at.number_at-requires c).After-behind-next)

pub overflow_add-next : goal.overflow_add-next
overflow_add-next c = omega (arith, record_there (goal.at.overflow_add-next c).After-behind-next)

pub number_at-requires-2 : goal.number_at-requires-2
number_at-requires-2 c = omega (arith, record_there (goal.at.number_at-requires-2 c).After-behind-next)

pub overflow_add-next-2 : goal.overflow_add-next-2
overflow_add-next-2 c = omega (arith, record_there (goal.at.overflow_add-next-2 c).After-behind-next)

pub number_at-requires-3 : goal.number_at-requires-3
number_at-requires-3 c = omega (arith, record_there (goal.at.number_at-requires-3 c).After-behind-next)

pub overflow_add-next-3 : goal.overflow_add-next-3
overflow_add-next-3 c = omega (arith, record_there (goal.at.overflow_add-next-3 c).After-behind-next)

pub argument_at-store-requires : goal.argument_at-store-requires
argument_at-store-requires c =
    let s = c.args.script.now in
    let at = c.args.at in
    store_whole s at _ (name_whole s at c.requires) c.behind-next.ensures c.requires

pub returns : goal.returns
returns c =
    let s = c.args.script.now in
    let at = c.args.at in
    let w = name_whole s at c.requires in
    let e = c.behind-next.ensures in
    rw c.unwrap_or.ensures
    (header_run (drop at s) _ _ _ _ _ _ _ _ c.argument_at-name.ensures
    (record_is s at _ w e _ _ _ c.number_at.ensures.0 c.number_at-2.ensures.0 c.number_at-3.ensures.0)
    (c.argument_at-store.ensures ∙ store_is s at _ w e) c.add_header_obj.ensures)
