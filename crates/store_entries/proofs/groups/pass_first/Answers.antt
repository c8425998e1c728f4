-- `store_entries::groups::pass_first` meets its contract. The invariant is `First`. Assumes nothing.
use mathlib.Core.Path.{sym}
use native.Mathlib.Omega.{arith}
use Rattle.store_entries.proofs.EntryWalk.{first_start, first_end, first_on, first_within, first_numbers}
use Rattle.store_entries.proofs.groups.pass_first.Goals as goal

pub loop-init : goal.loop-init
loop-init c =
    first_start c.args.s.now c.args.from c.args.count c.args.n c.requires.1 c.requires.0

pub overflow_add-from : goal.overflow_add-from
overflow_add-from c =
    let args = c.args in
    let s = args.s.now in
    let size = c.loop.size in
    let many = c.loop.counter in
    let first = c.loop.invariant in
    omega (arith, first_numbers s args.from args.count args.n c.requires.1 size many first (omega arith))

pub entry_len-size-requires : goal.entry_len-size-requires
entry_len-size-requires c =
    let args = c.args in
    let s = args.s.now in
    let size = c.loop.size in
    let many = c.loop.counter in
    let first = c.loop.invariant in
    first_numbers s args.from args.count args.n c.requires.1 size many first (omega arith)

pub overflow_add-size : goal.overflow_add-size
overflow_add-size c =
    let args = c.args in
    let s = args.s.now in
    let size = c.loop.size in
    let many = c.loop.counter in
    let first = c.loop.invariant in
    omega (arith, first_within s args.from args.count args.n c.requires.1 size many first (omega arith), c.entry_len-size.ensures.0)

pub loop-preserved : goal.loop-preserved
loop-preserved c =
    let args = c.args in
    let s = args.s.now in
    let size = c.loop.size in
    let many = c.loop.counter in
    let first = c.loop.invariant in
    rw c.entry_len-size.ensures.0 (first_on s args.from args.count args.n c.requires.1 size many first (omega arith))

pub returns : goal.returns
returns c =
    let args = c.args in
    let s = args.s.now in
    let size = c.loop.size in
    let many = c.loop.counter in
    let first = c.loop.invariant in
    sym (first_end s args.from args.count args.n c.requires.1 size many first (omega arith))
