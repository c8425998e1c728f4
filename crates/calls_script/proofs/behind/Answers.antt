-- `calls_script::behind` meets its contract. Assumes nothing.
use native.Mathlib.Omega.{arith}
use Rattle.calls_script.specs.Script.{argument_size}
use Rattle.calls_script.proofs.ArgumentPlaces.{whole_within}
use Rattle.calls_script.proofs.behind.Goals as goal

pub overflow_add-result : goal.overflow_add-result
overflow_add-result c = omega (arith, whole_within c.args.s.now c.args.at c.requires)

pub number_at-requires : goal.number_at-requires
number_at-requires c = omega (arith, whole_within c.args.s.now c.args.at c.requires)

pub overflow_add-result-2 : goal.overflow_add-result-2
overflow_add-result-2 c = omega (arith, whole_within c.args.s.now c.args.at c.requires, c.number_at.ensures.0)

pub returns : goal.returns
unfolding argument_size
returns c = omega (arith, c.number_at.ensures.0)
