-- `write_parts::measure::contents_len` meets its contract: each line takes 12 bytes less than it is stored in. Assumes nothing.
use native.Mathlib.Omega.{arith}
use Rattle.write_parts.proofs.TextLengths.{contents_length}
use Rattle.write_parts.proofs.measure.contents_len.Goals as goal

pub overflow_mul-result : goal.overflow_mul-result
overflow_mul-result c = omega (arith, contents_length c.args.count c.args.s.now c.requires, c.well_formed)

pub overflow_sub-result : goal.overflow_sub-result
overflow_sub-result c = omega (arith, contents_length c.args.count c.args.s.now c.requires)

pub returns : goal.returns
returns c = omega (arith, contents_length c.args.count c.args.s.now c.requires)
