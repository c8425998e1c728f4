-- `octets::compare::before` meets its contract. The invariant: the order is that of the texts from i on. Assumes nothing.
use mathlib.Core.Path.{sym, ◌∙◌}
use native.Mathlib.Omega.{arith}
use Rattle.octets.proofs.Comparing.{before_ends, before_differs, before_step, before_ordered}
use Rattle.octets.proofs.compare.before.Goals as goal

pub returns-then-both-eq0 : goal.returns-then-both-eq0
returns-then-both-eq0 c = sym (before_ends c.args.a.now c.args.b.now 0 (omega arith))

pub returns-then-a-b : goal.returns-then-a-b
returns-then-a-b c = sym (before_differs c.args.a.now c.args.b.now 0 (omega arith) (omega arith) (λ e. c.if-a-b.true (sym e)))

pub returns-then-starts_with : goal.returns-then-starts_with
returns-then-starts_with c = c.is_lt.ensures ∙ before_ordered c.args.a.now c.args.b.now c.cmp.result c.cmp.ensures

pub loop-i-init : goal.loop-i-init
loop-i-init c = before_step c.args.a.now c.args.b.now 0 (omega arith) (omega arith) (sym c.if-a-b.false)

pub returns-then-a-i : goal.returns-then-a-i
returns-then-a-i c =
    let args = c.args in
    sym (c.loop-i.invariant ∙ before_differs args.a.now args.b.now c.loop-i.i (omega arith) (omega arith) (λ e. c.if-a-i.true (sym e)))

pub loop-i-preserved : goal.loop-i-preserved
loop-i-preserved c =
    let args = c.args in
    c.loop-i.invariant ∙ before_step args.a.now args.b.now c.loop-i.i (omega arith) (omega arith) (sym c.if-a-i.false)

pub returns : goal.returns
returns c =
    let args = c.args in
    sym (c.loop-i.invariant ∙ before_ends args.a.now args.b.now c.loop-i.i (omega arith))
