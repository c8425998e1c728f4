-- `store_entries::groups::pass` meets its contract: so many entries have been passed over, and each name passed the test.
-- Assumes nothing.
use mathlib.Core.Path.{sym, ◌∙◌}
use Prim.Native.Nat.{◌+◌}
use native.Mathlib.Omega.{arith}
use lib.ListN.{drop}
use Rattle.store_entries.proofs.Passing.{named_is}
use Rattle.store_entries.proofs.EntryWalk.{walk_start, walk_end, walk_stop, walk_on, first_start, first_on, first_shaped, first_within, first_numbers}
use Rattle.store_entries.proofs.groups.pass.Goals as goal

pub loop-many-init : goal.loop-many-init
loop-many-init g c =
    let args = c.args in
    let s = args.s.now in
    record {
      first = first_start s args.from args.count args.count (omega arith) c.requires.shaped;
      walk = λ p t. walk_start (λ e. p e.name) s args.from args.count c.requires.shaped;
    }

pub overflow_add-at : goal.overflow_add-at
overflow_add-at g c =
    let args = c.args in
    let s = args.s.now in
    let l = c.loop-many in
    omega (arith, first_numbers s args.from args.count args.count (omega arith) l.size l.many l.invariant.first (omega arith))

pub name_at-requires : goal.name_at-requires
name_at-requires g c =
    let args = c.args in
    let s = args.s.now in
    let l = c.loop-many in
    first_shaped s args.from args.count args.count (omega arith) l.size l.many l.invariant.first (omega arith)

pub returns-then-not-passes : goal.returns-then-not-passes
returns-then-not-passes g c =
    let args = c.args in
    let s = args.s.now in
    let l = c.loop-many in
    λ p t.
    let stop = walk_stop (λ e. p e.name) s args.from args.count l.size l.many (l.invariant.walk p t) (omega arith)
    (named_is p (drop (args.from + l.size) s) _ _ c.name_at.ensures (t.says _ _ c.passes.ensures) ∙ c.if-not-passes.true) in
    record { bytes = sym stop.0; entries = sym stop.1 }

pub entry_len-size-requires : goal.entry_len-size-requires
entry_len-size-requires g c =
    let args = c.args in
    let s = args.s.now in
    let l = c.loop-many in
    first_numbers s args.from args.count args.count (omega arith) l.size l.many l.invariant.first (omega arith)

pub overflow_add-size : goal.overflow_add-size
overflow_add-size g c =
    let args = c.args in
    let s = args.s.now in
    let l = c.loop-many in
    omega (arith, first_within s args.from args.count args.count (omega arith) l.size l.many l.invariant.first (omega arith), c.entry_len-size.ensures.0)

pub loop-many-preserved : goal.loop-many-preserved
loop-many-preserved g c =
    let args = c.args in
    let s = args.s.now in
    let l = c.loop-many in
    record {
      first = rw c.entry_len-size.ensures.0 (first_on s args.from args.count args.count (omega arith) l.size l.many l.invariant.first (omega arith));
      walk = λ p t.
          rw c.entry_len-size.ensures.0
          (walk_on (λ e. p e.name) s args.from args.count l.size l.many (l.invariant.walk p t) (omega arith)
          (named_is p (drop (args.from + l.size) s) _ _ c.name_at.ensures (t.says _ _ c.passes.ensures) ∙ c.if-not-passes.false));
    }

pub returns : goal.returns
returns g c =
    let args = c.args in
    let s = args.s.now in
    let l = c.loop-many in
    λ p t.
    let end = walk_end (λ e. p e.name) s args.from args.count l.size l.many (l.invariant.walk p t) (omega arith) in
    record { bytes = sym end.0; entries = omega (arith, end.1, l.invariant.first.within) }
