-- `sections::bodies::join_body` meets its contract. The invariant: filled from here on with the parts of what is left, the store is the
-- one that all parts fill from the start, and the bytes of these parts are those that are left of the whole. Assumes nothing.
use Rattle.std.specs.Prelude.{false}
use mathlib.Core.Path.{◌≡◌, refl, sym, ap, ◌∙◌}
use Prim.Native.Nat.{ℕ, ◌+◌, ◌-◌, ◌≤◌}
use native.Mathlib.Omega.{arith}
use lib.ListN.{length, take, drop, length-take, length-drop}
use Rattle.format.specs.Bytes.{Bytes, lf_lf_text, split}
use Rattle.format.proofs.Lists.{rest_is}
use Rattle.sections.specs.declared.Piece.{Piece}
use Rattle.sections.specs.Body.{joined}
use Rattle.sections.specs.Cuts.{cut_of}
use Rattle.sections.proofs.Cutting.{rest_within}
use Rattle.sections.proofs.Joining.{joined_bound, left_more}
use Rattle.sections.proofs.BodyParts.{parts_total}
use Rattle.sections.proofs.JoinTurn.{part_size, turn_short, turn_kept, turn_more, turn_last, count_more, count_last, left_count}
use Rattle.sections.proofs.bodies.join_body.Goals as goal

-- the section that was cut off lies within the rest
inside : (rest : Bytes) (from : ℕ) (r : Piece) → r ≡ cut_of lf_lf_text (take (length rest - from) (drop from rest)) → from ≤ length rest → from + r.end ≤ length rest
inside rest from r cut h = omega (arith, rest_within lf_lf_text rest from r cut, length-drop from rest)

pub loop-out-init : goal.loop-out-init
loop-out-init c = (omega arith, omega arith, refl, omega (arith, parts_total false (split lf_lf_text c.args.rest.now)), refl)

pub led_len-n-requires : goal.led_len-n-requires
led_len-n-requires c = omega (arith, inside _ _ _ c.cut-piece.ensures c.loop-out.invariant.0)

pub overflow_add-result : goal.overflow_add-result
overflow_add-result c =
    record { fits = omega (arith, count_last c.args.rest.now c.loop-out.from c.loop-out.ahead _ c.cut-piece.ensures _ c.led_len-n.ensures c.in_default.is, c.loop-out.invariant.3, joined_bound c.args.rest.now) }

pub returns-in_default : goal.returns-in_default
returns-in_default c =
    record {
      length = omega (arith, count_last c.args.rest.now c.loop-out.from c.loop-out.ahead _ c.cut-piece.ensures _ c.led_len-n.ensures c.in_default.is, c.loop-out.invariant.3);
      bytes = sym (turn_short c.args.rest.now c.loop-out.from c.loop-out.ahead _ c.cut-piece.ensures _ c.led_len-n.ensures c.loop-out.to c.loop-out.out (omega arith)) ∙ c.loop-out.invariant.4;
    }

pub overflow_add-behind : goal.overflow_add-behind
overflow_add-behind c =
    record { fits = omega (arith, left_more c.args.rest.now c.loop-out.from _ c.cut-piece.ensures _ c.in-Some.is c.loop-out.invariant.0) }

pub overflow_add-result-then-out-to : goal.overflow_add-result-then-out-to
overflow_add-result-then-out-to c =
    record { fits = omega (arith, left_count c.args.rest.now c.loop-out.from c.loop-out.ahead _ c.cut-piece.ensures _ c.led_len-n.ensures _ c.in-Some.is, c.loop-out.invariant.3, joined_bound c.args.rest.now) }

pub overflow_add-result-then-out-to-2 : goal.overflow_add-result-then-out-to-2
overflow_add-result-then-out-to-2 c =
    record { fits = omega (arith, left_count c.args.rest.now c.loop-out.from c.loop-out.ahead _ c.cut-piece.ensures _ c.led_len-n.ensures _ c.in-Some.is, c.loop-out.invariant.3, joined_bound c.args.rest.now) }

pub slice_bounds-joined_len-count : goal.slice_bounds-joined_len-count
slice_bounds-joined_len-count c =
    omega (arith, left_more c.args.rest.now c.loop-out.from _ c.cut-piece.ensures _ c.in-Some.is c.loop-out.invariant.0)

pub slice_bounds-joined_len-start : goal.slice_bounds-joined_len-start
slice_bounds-joined_len-start c =
    omega (arith, left_more c.args.rest.now c.loop-out.from _ c.cut-piece.ensures _ c.in-Some.is c.loop-out.invariant.0)

-- what is measured, behind the section that does not fit
measured : (rest : Bytes) (at n : ℕ) → n ≡ length (joined (take (length rest - at) (drop at rest))) → n ≡ length (joined (drop at rest))
measured rest at n e = e ∙ ap (λ (s : Bytes). length (joined s)) (rest_is rest at)

pub overflow_add-result-then-out-to-3 : goal.overflow_add-result-then-out-to-3
overflow_add-result-then-out-to-3 c =
    record { fits = omega (arith, left_count c.args.rest.now c.loop-out.from c.loop-out.ahead _ c.cut-piece.ensures _ c.led_len-n.ensures _ c.in-Some.is, c.loop-out.invariant.3, measured c.args.rest.now (c.loop-out.from + c.in-Some.next) _ c.joined_len.ensures, joined_bound c.args.rest.now) }

pub returns-then-out-to : goal.returns-then-out-to
returns-then-out-to c =
    record {
      length = omega (arith, left_count c.args.rest.now c.loop-out.from c.loop-out.ahead _ c.cut-piece.ensures _ c.led_len-n.ensures _ c.in-Some.is, c.loop-out.invariant.3, measured c.args.rest.now (c.loop-out.from + c.in-Some.next) _ c.joined_len.ensures);
      bytes = sym (turn_short c.args.rest.now c.loop-out.from c.loop-out.ahead _ c.cut-piece.ensures _ c.led_len-n.ensures c.loop-out.to c.loop-out.out (omega arith)) ∙ c.loop-out.invariant.4;
    }

pub slice_bounds-fill_section-end-in-loop-out : goal.slice_bounds-fill_section-end-in-loop-out
slice_bounds-fill_section-end-in-loop-out c =
    omega (arith, inside _ _ _ c.cut-piece.ensures c.loop-out.invariant.0)

pub fill_section-requires : goal.fill_section-requires
fill_section-requires c =
    length-take (c.loop-out.to + c.led_len-n.result - c.loop-out.to) (drop c.loop-out.to c.loop-out.out)
    ∙ omega (arith, length-drop c.loop-out.to c.loop-out.out)
    ∙ sym (part_size c.args.rest.now c.loop-out.from c.loop-out.ahead _ c.cut-piece.ensures _ c.led_len-n.ensures)

pub returns-in_default-next : goal.returns-in_default-next
returns-in_default-next c =
    record {
      length = omega (arith, count_last c.args.rest.now c.loop-out.from c.loop-out.ahead _ c.cut-piece.ensures _ c.led_len-n.ensures c.in_default-next.is, c.loop-out.invariant.3);
      bytes = sym (turn_last c.args.rest.now c.loop-out.from c.loop-out.ahead _ c.cut-piece.ensures _ c.led_len-n.ensures c.loop-out.to c.loop-out.out (omega arith) _ c.fill_section.ensures c.in_default-next.is) ∙ c.loop-out.invariant.4;
    }

pub overflow_add-from : goal.overflow_add-from
overflow_add-from c =
    record { fits = omega (arith, left_more c.args.rest.now c.loop-out.from _ c.cut-piece.ensures _ c.in-Some-next.is c.loop-out.invariant.0) }

pub loop-out-smaller : goal.loop-out-smaller
loop-out-smaller c =
    omega (arith, left_more c.args.rest.now c.loop-out.from _ c.cut-piece.ensures _ c.in-Some-next.is c.loop-out.invariant.0)

pub loop-out-preserved : goal.loop-out-preserved
loop-out-preserved c =
    let more = left_more c.args.rest.now c.loop-out.from _ c.cut-piece.ensures _ c.in-Some-next.is c.loop-out.invariant.0 in
    let kept = turn_kept c.args.rest.now c.loop-out.from c.loop-out.ahead _ c.cut-piece.ensures _ c.led_len-n.ensures c.loop-out.to c.loop-out.out (omega arith) _ c.fill_section.ensures in (
      omega arith,
      omega (arith, kept),
      kept ∙ c.loop-out.invariant.2,
      omega (arith, count_more c.args.rest.now c.loop-out.from c.loop-out.ahead _ c.cut-piece.ensures _ c.led_len-n.ensures _ c.in-Some-next.is, c.loop-out.invariant.3),
      sym (turn_more c.args.rest.now c.loop-out.from c.loop-out.ahead _ c.cut-piece.ensures _ c.led_len-n.ensures c.loop-out.to c.loop-out.out (omega arith) _ c.fill_section.ensures _ c.in-Some-next.is) ∙ c.loop-out.invariant.4,
    )
