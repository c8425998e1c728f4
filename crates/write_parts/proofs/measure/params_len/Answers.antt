-- `write_parts::measure::params_len` meets its contract: each parameter takes 14 bytes less than it is stored in. Assumes nothing.
use native.Mathlib.Omega.{arith}
use lib.ListN.{drop}
use Rattle.store_entries.proofs.EntryShape.{within_numbers}
use Rattle.write_parts.proofs.TextLengths.{params_at}
use Rattle.write_parts.proofs.measure.params_len.Goals as goal

pub tail_len-requires : goal.tail_len-requires
tail_len-requires c =
    within_numbers c.args.s.now c.args.at c.requires.0

pub param_count-requires : goal.param_count-requires
param_count-requires c =
    within_numbers c.args.s.now c.args.at c.requires.0

pub overflow_sub-result : goal.overflow_sub-result
overflow_sub-result c =
    omega (arith, params_at (drop c.args.at c.args.s.now) c.requires.0 c.requires.1, c.tail_len.ensures.0, c.param_count.ensures.0)

pub returns : goal.returns
returns c =
    let e = params_at (drop c.args.at c.args.s.now) c.requires.0 c.requires.1 in
    let n = c.tail_len.ensures in
    let k = c.param_count.ensures in
    (omega (arith, e, n.0, k.0), omega (arith, n.1))
