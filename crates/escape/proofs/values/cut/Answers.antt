-- `escape::values::cut` meets its contract. Assumes nothing.
use Prim.Native.Nat.{◌≤◌}
use mathlib.Core.Path.{◌≡◌, ap, ◌∙◌}
use native.Mathlib.Omega.{arith}
use lib.ListN.{length, drop, length-drop}
use Rattle.format.specs.Bytes.{Bytes}
use Rattle.format.specs.Characters.{chars}
use Rattle.format.proofs.Lists.{rest_is}
use Rattle.code_points.specs.Ends.{lost_back}
use Rattle.code_points.proofs.LostEnds.{front_inside, back_inside}
use Rattle.escape.proofs.ValueParts.{cuts}
use Rattle.escape.proofs.values.cut.Goals as goal

pub slice_bounds-lost_back-start : goal.slice_bounds-lost_back-start
slice_bounds-lost_back-start c =
    let value = c.args.v.now in
    let front_fits : c.lost_front-front.result ≤ length value = omega (arith, c.lost_front-front.ensures, front_inside value) in
    front_fits

pub slice_bounds-lost_back-count : goal.slice_bounds-lost_back-count
slice_bounds-lost_back-count c =
    let value = c.args.v.now in
    let front_fits : c.lost_front-front.result ≤ length value = omega (arith, c.lost_front-front.ensures, front_inside value) in
    front_fits

pub overflow_sub-result : goal.overflow_sub-result
overflow_sub-result c =
    let value = c.args.v.now in
    let back_is : c.lost_back-back.result ≡ lost_back (chars (drop c.lost_front-front.result value)) = c.lost_back-back.ensures ∙ ap (λ (x : Bytes). lost_back (chars x)) (rest_is value c.lost_front-front.result) in
    let rest = drop c.lost_front-front.result value in
    omega (arith, back_is, back_inside rest, length-drop c.lost_front-front.result value)

pub returns : goal.returns
returns c =
    let value = c.args.v.now in
    let back_is : c.lost_back-back.result ≡ lost_back (chars (drop c.lost_front-front.result value)) = c.lost_back-back.ensures ∙ ap (λ (x : Bytes). lost_back (chars x)) (rest_is value c.lost_front-front.result) in
    cuts value c.lost_front-front.result c.lost_back-back.result c.lost_front-front.ensures back_is
