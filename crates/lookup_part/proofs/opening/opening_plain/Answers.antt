-- `lookup_part::opening::opening_plain` meets its contract. The invariant: what stands behind the `<` is to be found from i on. Assumes nothing.
use mathlib.Core.Path.{sym, ◌∙◌}
use native.Mathlib.Omega.{arith}
use borrow.Author.Rules.{rules}
use Rattle.lookup_part.proofs.AddressSigns.{opens_here, opens_later, opens_nowhere}
use Rattle.lookup_part.proofs.opening.opening_plain.Goals as goal

pub returns-then-opens : goal.returns-then-opens
returns-then-opens c =
    opens_here c.args.value.now c.loop-i.at c.loop-i.i c.loop-i.invariant (search rules) (sym c.opens.ensures ∙ c.if-opens.true)

pub loop-i-preserved : goal.loop-i-preserved
loop-i-preserved c =
    rw c.quoting_behind-at.ensures
    (opens_later c.args.value.now c.loop-i.at c.loop-i.i c.loop-i.invariant (search rules) (sym c.opens.ensures ∙ c.if-opens.false))

pub returns : goal.returns
returns c =
    opens_nowhere c.args.value.now c.loop-i.at c.loop-i.i c.loop-i.invariant (omega arith)
