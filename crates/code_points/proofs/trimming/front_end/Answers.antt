-- `code_points::trimming::front_end` meets its contract. The invariant: dropping white space in front gives the same from the place
-- reached on.
-- Assumes nothing.
use mathlib.Core.Path.{◌∙◌, subst}
use mathlib.Core.List.{List}
use Prim.Native.Nat.{ℕ}
use native.Mathlib.Omega.{arith}
use lib.ListN.{drop}
use Rattle.format.specs.Characters.{is_white}
use Rattle.format.proofs.Lists.{rest_is}
use Rattle.code_points.specs.Edges.{NoFront}
use Rattle.code_points.proofs.WhiteTests.{white_whole, white_short}
use Rattle.code_points.proofs.Stripping.{front_inside, front_on, front_stop}
use Rattle.code_points.proofs.trimming.front_end.Goals as goal

pub overflow_add-at : goal.overflow_add-at
overflow_add-at c =
    let w = c.in-Some.ensures is_white (record { says = λ x b h. h; whole = white_whole; short = white_short }) in
    omega (arith, front_inside c.args.s.now c.loop-n.at c.in-Some.n c.loop-n.invariant.0 w)

pub loop-n-smaller : goal.loop-n-smaller
loop-n-smaller c =
    let w = c.in-Some.ensures is_white (record { says = λ x b h. h; whole = white_whole; short = white_short }) in
    omega (arith, w.some, front_inside c.args.s.now c.loop-n.at c.in-Some.n c.loop-n.invariant.0 w)

pub loop-n-preserved : goal.loop-n-preserved
loop-n-preserved c =
    let w = c.in-Some.ensures is_white (record { says = λ x b h. h; whole = white_whole; short = white_short }) in
    let s = c.args.s.now in
    let loop = c.loop-n in
    (front_inside s loop.at c.in-Some.n loop.invariant.0 w, loop.invariant.1 ∙ front_on s loop.at c.in-Some.n loop.invariant.0 w)

pub returns : goal.returns
returns c =
    let s = c.args.s.now in
    let loop = c.loop-n in
    let n = c.in_default.ensures is_white (record { says = λ x b h. h; whole = white_whole; short = white_short }) in
    (loop.invariant.0, loop.invariant.1 ∙ front_stop (drop loop.at s) (subst (λ (x : List ℕ). NoFront is_white x) (rest_is s loop.at) n))
