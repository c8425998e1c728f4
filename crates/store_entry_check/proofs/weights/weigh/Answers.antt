-- `store_entry_check::weights::weigh` meets its contract. The invariant: what is summed up and what is left weigh as much as all. Assumes nothing.
use mathlib.Core.Path.{◌≡◌, sym, ◌∙◌}
use borrow.Author.Rules.{rules}
use lib.ListN.{get_or}
use native.Mathlib.Omega.{arith}
use Rattle.store_entry_check.specs.Weights.{weight}
use Rattle.store_entry_check.proofs.Light.{weight_fits, weights_get_d, total_step, total_end}
use Rattle.store_entry_check.proofs.weights.weigh.Goals as goal

pub loop-b-init : goal.loop-b-init
loop-b-init c = (omega arith, omega arith)

pub overflow_add-sum : goal.overflow_add-sum
overflow_add-sum c =
    let b = get_or c.args.s.now c.loop-b.b-index 0 in
    let read : c.from-sum.result ≡ weight b = c.from-sum.ensures ∙ rw c.from.ensures (weights_get_d c.table-table.result.now b c.table-table.ensures (search (rules, c.type_inv.s c.loop-b.b-index))) in
    omega (arith, c.loop-b.invariant.0, weight_fits b)

pub loop-b-preserved : goal.loop-b-preserved
loop-b-preserved c =
    let l = c.loop-b in
    let b = get_or c.args.s.now l.b-index 0 in
    let read : c.from-sum.result ≡ weight b = c.from-sum.ensures ∙ rw c.from.ensures (weights_get_d c.table-table.result.now b c.table-table.ensures (search (rules, c.type_inv.s l.b-index))) in
    (omega (arith, l.invariant.0, weight_fits b), l.invariant.1 ∙ rw read (total_step c.args.s.now l.b-index l.sum (omega arith)))

pub returns : goal.returns
returns c =
    sym (c.loop-b.invariant.1 ∙ total_end c.args.s.now c.loop-b.b-index c.loop-b.sum (omega arith))
