-- `code_points::trimming::back_end` meets its contract. The invariant: dropping white space at the back gives the same up to the place
-- reached.
-- Assumes nothing.
use mathlib.Core.Path.{◌∙◌, ap}
use native.Mathlib.Omega.{arith}
use lib.ListN.{take}
use Rattle.format.specs.Characters.{is_white, flat}
use Rattle.code_points.proofs.WhiteTests.{white_whole, white_short}
use Rattle.code_points.proofs.Stripping.{back_inside, back_on, back_stop}
use Rattle.code_points.proofs.trimming.back_end.Goals as goal

pub overflow_sub-end : goal.overflow_sub-end
overflow_sub-end c =
    let w = c.in-Some.ensures is_white (record { says = λ x b h. h; whole = white_whole; short = white_short }) in
    back_inside c.args.s.now c.loop-n.end c.in-Some.n c.loop-n.invariant.0 w

pub loop-n-smaller : goal.loop-n-smaller
loop-n-smaller c =
    let w = c.in-Some.ensures is_white (record { says = λ x b h. h; whole = white_whole; short = white_short }) in
    omega (arith, w.some, back_inside c.args.s.now c.loop-n.end c.in-Some.n c.loop-n.invariant.0 w)

pub loop-n-preserved : goal.loop-n-preserved
loop-n-preserved c =
    let w = c.in-Some.ensures is_white (record { says = λ x b h. h; whole = white_whole; short = white_short }) in
    let loop = c.loop-n in
    (omega (arith, loop.invariant.0), loop.invariant.1 ∙ back_on c.args.s.now loop.end c.in-Some.n loop.invariant.0 w)

pub returns : goal.returns
returns c =
    let loop = c.loop-n in
    let n = c.in_default.ensures is_white (record { says = λ x b h. h; whole = white_whole; short = white_short }) in
    (loop.invariant.0, ap flat loop.invariant.1 ∙ back_stop (take loop.end c.args.s.now) n)
