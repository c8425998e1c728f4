-- `code_points::edges::front` meets its contract. What was tried does not pass.
-- Assumes nothing.
use mathlib.Core.Path.{◌≡◌, sym, ◌∙◌}
use Prim.Native.Nat.{◌<◌}
use lib.ListN.{length, get_or}
use native.Mathlib.Omega.{arith}
use Rattle.std.proofs.lemmas.Option.{get_or_from_slice_get, slice_get_within}
use Rattle.code_points.specs.Edges.{AFront}
use Rattle.code_points.proofs.Stripping.{then_some_of, no_front_empty, front_low, front_high}
use Rattle.code_points.proofs.edges.front.Goals as goal

pub returns-in_err-edge : goal.returns-in_err-edge
returns-in_err-edge g c = rw c.from_residual.ensures (λ p t. no_front_empty p c.args.u.now (sym c.in_err-edge.ensures.value))

pub returns-then-edge-lt128 : goal.returns-then-edge-lt128
returns-then-edge-lt128 g c = λ p t. let u = c.args.u.now in
    let e : get_or u 0 0 ≡ c.in_ok-edge.edge.now = get_or_from_slice_get u 0 _ 0 (sym c.in_ok-edge.ensures.value) in
    let h : 0 < length u = slice_get_within u 0 _ (sym c.in_ok-edge.ensures.value) in
    rw c.then_some.ensures
    (then_some_of (AFront p u) 1 c.passes.result
    (λ w. front_low p t.whole t.short u h (omega arith) (sym (t.says _ _ c.passes.ensures) ∙ w))
    (λ w. record { some = omega arith; inside = omega arith; passes = sym (t.says _ _ c.passes.ensures) ∙ w }))

pub returns-then-u-lt2 : goal.returns-then-u-lt2
returns-then-u-lt2 g c = λ p t. let u = c.args.u.now in
    let e : get_or u 0 0 ≡ c.in_ok-edge.edge.now = get_or_from_slice_get u 0 _ 0 (sym c.in_ok-edge.ensures.value) in
    let h : 0 < length u = slice_get_within u 0 _ (sym c.in_ok-edge.ensures.value) in
    front_high p t.whole t.short u h (omega arith) (λ l. absurd (omega arith)) (λ l. absurd (omega arith))

pub returns-then-passes : goal.returns-then-passes
returns-then-passes g c = λ p t. let u = c.args.u.now in
    record { some = omega arith; inside = omega arith; passes = sym (t.says _ _ c.passes-2.ensures) ∙ c.if-passes.true }

pub returns-then-u-lt3 : goal.returns-then-u-lt3
returns-then-u-lt3 g c = λ p t. let u = c.args.u.now in
    let e : get_or u 0 0 ≡ c.in_ok-edge.edge.now = get_or_from_slice_get u 0 _ 0 (sym c.in_ok-edge.ensures.value) in
    let h : 0 < length u = slice_get_within u 0 _ (sym c.in_ok-edge.ensures.value) in
    front_high p t.whole t.short u h (omega arith) (λ l. sym (t.says _ _ c.passes-2.ensures) ∙ c.if-passes.false) (λ l. absurd (omega arith))

pub returns : goal.returns
returns g c = λ p t. let u = c.args.u.now in
    let e : get_or u 0 0 ≡ c.in_ok-edge.edge.now = get_or_from_slice_get u 0 _ 0 (sym c.in_ok-edge.ensures.value) in
    let h : 0 < length u = slice_get_within u 0 _ (sym c.in_ok-edge.ensures.value) in
    rw c.then_some-2.ensures
    (then_some_of (AFront p u) 3 c.passes-3.result
    (λ w. front_high p t.whole t.short u h (omega arith) (λ l. sym (t.says _ _ c.passes-2.ensures) ∙ c.if-passes.false) (λ l. sym (t.says _ _ c.passes-3.ensures) ∙ w))
    (λ w. record { some = omega arith; inside = omega arith; passes = sym (t.says _ _ c.passes-3.ensures) ∙ w }))
