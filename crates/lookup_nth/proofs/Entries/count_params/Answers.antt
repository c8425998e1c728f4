-- `lookup_nth::Entries::count_params` meets its contract. The invariant is `Counted`. Assumes nothing.
use native.Mathlib.Omega.{arith}
use Rattle.lookup_nth.proofs.Counted.{counted_start, counted_end, counted_numbers, counted_size, counted_on}
use Rattle.lookup_nth.proofs.Entries.count_params.Goals as goal

pub loop-init : goal.loop-init
loop-init c = counted_start c.args.self.bytes.now c.args.self.count c.requires.0

pub param_count-params-requires : goal.param_count-params-requires
param_count-params-requires c =
    let s = c.args.self in
    let l = c.loop in
    counted_numbers s.bytes.now s.count l.at l.counter l.params l.invariant (omega arith)

pub overflow_add-params : goal.overflow_add-params
overflow_add-params c = omega (arith, c.loop.invariant.few, c.requires.1, c.param_count-params.ensures.1)

pub entry_len-at-requires : goal.entry_len-at-requires
entry_len-at-requires c =
    let s = c.args.self in
    let l = c.loop in
    counted_numbers s.bytes.now s.count l.at l.counter l.params l.invariant (omega arith)

pub overflow_add-at : goal.overflow_add-at
overflow_add-at c =
    let s = c.args.self in
    let l = c.loop in
    omega (arith, counted_size s.bytes.now s.count l.at l.counter l.params l.invariant (omega arith), c.entry_len-at.ensures.0)

pub loop-preserved : goal.loop-preserved
loop-preserved c =
    let s = c.args.self in
    let l = c.loop in
    let count = c.param_count-params in
    rw c.entry_len-at.ensures.0 (counted_on s.bytes.now s.count l.at l.counter l.params l.invariant (omega arith) count.result count.ensures.0 count.ensures.1)

pub returns : goal.returns
returns c =
    let s = c.args.self in
    let l = c.loop in
    counted_end s.bytes.now s.count l.at l.counter l.params l.invariant (omega arith)
