-- `octets::compare::says` meets its contract: the pattern occurs if it does from the place at on. Assumes nothing.
use mathlib.Core.Path.{refl, sym, ◌∙◌}
use mathlib.Core.List.{map}
use native.Mathlib.Omega.{arith}
use lib.ListN.{drop, length-map, length-drop}
use Rattle.format.specs.Bytes.{lower}
use Rattle.octets.proofs.Comparing.{occurs_end, occurs_short, occurs_here, occurs_later}
use Rattle.octets.proofs.compare.says.Goals as goal

pub loop-at-init : goal.loop-at-init
loop-at-init c = refl

pub returns-then-text-at : goal.returns-then-text-at
returns-then-text-at c =
    let args = c.args in
    sym (c.loop-at.invariant ∙ occurs_short args.pattern.now (drop c.loop-at.at (map lower args.text.now)) (simp (length-drop, length-map) (omega arith)))

pub returns-then-stands_at : goal.returns-then-stands_at
returns-then-stands_at c =
    let args = c.args in
    sym
    (c.loop-at.invariant
    ∙ occurs_here args.pattern.now (map lower args.text.now) c.loop-at.at (simp length-map (omega arith)) (sym c.stands_at.ensures ∙ c.if-stands_at.true))

pub loop-at-preserved : goal.loop-at-preserved
loop-at-preserved c =
    let args = c.args in
    c.loop-at.invariant
    ∙ occurs_later args.pattern.now (map lower args.text.now) c.loop-at.at (simp length-map (omega arith)) (sym c.stands_at.ensures ∙ c.if-stands_at.false)

pub returns : goal.returns
returns c =
    let args = c.args in
    sym (c.loop-at.invariant ∙ occurs_end args.pattern.now (map lower args.text.now) c.loop-at.at (simp length-map (omega arith)))
