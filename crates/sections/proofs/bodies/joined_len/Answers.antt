-- `sections::bodies::joined_len` meets its contract. The invariant: the whole length is that of what is left and the bytes counted so far, which are
-- at most two for each byte passed. Assumes nothing.
use native.Mathlib.Omega.{arith}
use Rattle.sections.proofs.Joining.{left_more}
use Rattle.sections.proofs.bodies.joined_len.Goals as goal

pub overflow_add-len : goal.overflow_add-len
overflow_add-len c =
    record { fits = omega (arith, left_more c.args.rest.now c.loop-next.at _ c.cut-piece.ensures _ c.in-Some.is c.loop-next.invariant.0) }

pub overflow_add-len-in-loop-next : goal.overflow_add-len-in-loop-next
overflow_add-len-in-loop-next c =
    record { fits = omega (arith, left_more c.args.rest.now c.loop-next.at _ c.cut-piece.ensures _ c.in-Some.is c.loop-next.invariant.0) }

pub overflow_add-at : goal.overflow_add-at
overflow_add-at c =
    record { fits = omega (arith, left_more c.args.rest.now c.loop-next.at _ c.cut-piece.ensures _ c.in-Some.is c.loop-next.invariant.0) }

pub loop-next-smaller : goal.loop-next-smaller
loop-next-smaller c =
    omega (arith, left_more c.args.rest.now c.loop-next.at _ c.cut-piece.ensures _ c.in-Some.is c.loop-next.invariant.0)

pub loop-next-preserved : goal.loop-next-preserved
loop-next-preserved c =
    let more = left_more c.args.rest.now c.loop-next.at _ c.cut-piece.ensures _ c.in-Some.is c.loop-next.invariant.0 in
    (omega arith, omega arith, omega arith)
