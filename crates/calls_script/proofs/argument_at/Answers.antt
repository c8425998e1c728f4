-- `calls_script::argument_at` meets its contract. Assumes nothing.
use native.Mathlib.Omega.{arith}
use Rattle.calls_script.proofs.ArgumentPlaces.{whole_within, argument_part}
use Rattle.calls_script.proofs.argument_at.Goals as goal

pub overflow_add-from : goal.overflow_add-from
overflow_add-from c =
    let s = c.args.s.now in
    let at = c.args.at in
    omega (arith, whole_within s at c.requires)

pub number_at-requires : goal.number_at-requires
number_at-requires c =
    let s = c.args.s.now in
    let at = c.args.at in
    omega (arith, whole_within s at c.requires)

pub overflow_add-to : goal.overflow_add-to
overflow_add-to c =
    let s = c.args.s.now in
    let at = c.args.at in
    omega (arith, whole_within s at c.requires, c.number_at.ensures.0)

pub slice_bounds-result-end : goal.slice_bounds-result-end
slice_bounds-result-end c =
    let s = c.args.s.now in
    let at = c.args.at in
    omega (arith, whole_within s at c.requires, c.number_at.ensures.0)

pub returns : goal.returns
returns c =
    let s = c.args.s.now in
    let at = c.args.at in
    argument_part s at c.number_at.result c.number_at.ensures.0
