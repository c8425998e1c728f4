-- `output::decimals::spell` meets its contract. The invariant is `Spelt`. Assumes nothing.
use native.Mathlib.Omega.{arith}
use lib.ListN.{length-set}
use Rattle.output.proofs.DecimalDigits.{spelt_start, spelt_more, spelt_last}
use Rattle.output.proofs.decimals.spell.Goals as goal

pub loop-rest-init : goal.loop-rest-init
loop-rest-init c = spelt_start c.args.n c.args.digits.now c.requires (omega arith)

pub loop-rest-preserved : goal.loop-rest-preserved
loop-rest-preserved c = spelt_more c.loop-rest.invariant c.loop-rest-test.true

pub shape_of-digits : goal.shape_of-digits
shape_of-digits c = simp length-set (omega (arith, c.loop-rest.invariant.size, c.requires))

pub returns : goal.returns
returns c = (omega (arith, c.loop-rest.invariant.within), spelt_last c.loop-rest.invariant (omega arith))
