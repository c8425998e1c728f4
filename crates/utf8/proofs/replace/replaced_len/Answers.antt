-- `utf8::replace::replaced_len` meets its contract. The invariant: the length counted and that of what is left replaced make
-- the whole; it is at most three times what lies behind.
-- Assumes nothing.
use mathlib.Core.Path.{ap}
use native.Mathlib.Omega.{arith}
use lib.ListN.{length}
use Rattle.utf8.proofs.Replacing.{Run, Ill, run_inside, run_count, run_last, ill_inside, ill_count}
use Rattle.utf8.proofs.replace.replaced_len.Goals as goal

pub loop-at-init : goal.loop-at-init
loop-at-init c = (omega arith, omega arith, omega arith)

pub overflow_sub-n : goal.overflow_sub-n
overflow_sub-n c =
    let run : Run c.args.s.now c.loop-at.at c.utf8_end-end.result = record { starts = c.loop-at.invariant.0; ends = c.utf8_end-end.ensures } in
    omega (arith, (run_inside run).0)

pub overflow_add-n : goal.overflow_add-n
overflow_add-n c =
    let run : Run c.args.s.now c.loop-at.at c.utf8_end-end.result = record { starts = c.loop-at.invariant.0; ends = c.utf8_end-end.ensures } in
    omega (arith, (run_inside run).1, c.loop-at.invariant.2)

pub returns-then-end-s : goal.returns-then-end-s
returns-then-end-s c =
    let run : Run c.args.s.now c.loop-at.at c.utf8_end-end.result = record { starts = c.loop-at.invariant.0; ends = c.utf8_end-end.ensures } in
    omega (arith, c.loop-at.invariant.1, run_count run, ap length (run_last run c.if-end-s.true))

pub overflow_add-n-in-loop-at : goal.overflow_add-n-in-loop-at
overflow_add-n-in-loop-at c =
    let run : Run c.args.s.now c.loop-at.at c.utf8_end-end.result = record { starts = c.loop-at.invariant.0; ends = c.utf8_end-end.ensures } in
    omega (arith, (run_inside run).1, c.loop-at.invariant.2)

pub overflow_add-at : goal.overflow_add-at
overflow_add-at c =
    let run : Run c.args.s.now c.loop-at.at c.utf8_end-end.result = record { starts = c.loop-at.invariant.0; ends = c.utf8_end-end.ensures } in
    let ill : Ill c.args.s.now c.utf8_end-end.result c.subpart_len.result = record { more = c.if-end-s.false; subpart = c.subpart_len.ensures } in
    omega (arith, (ill_inside run ill).1)

pub loop-at-smaller : goal.loop-at-smaller
loop-at-smaller c =
    let run : Run c.args.s.now c.loop-at.at c.utf8_end-end.result = record { starts = c.loop-at.invariant.0; ends = c.utf8_end-end.ensures } in
    let ill : Ill c.args.s.now c.utf8_end-end.result c.subpart_len.result = record { more = c.if-end-s.false; subpart = c.subpart_len.ensures } in
    omega (arith, (run_inside run).0, (ill_inside run ill).0, (ill_inside run ill).1)

pub loop-at-preserved : goal.loop-at-preserved
loop-at-preserved c =
    let run : Run c.args.s.now c.loop-at.at c.utf8_end-end.result = record { starts = c.loop-at.invariant.0; ends = c.utf8_end-end.ensures } in
    let ill : Ill c.args.s.now c.utf8_end-end.result c.subpart_len.result = record { more = c.if-end-s.false; subpart = c.subpart_len.ensures } in (
      (ill_inside run ill).1,
      omega (arith, c.loop-at.invariant.1, run_count run, ill_count run ill),
      omega (arith, c.loop-at.invariant.2, (run_inside run).0, (ill_inside run ill).0),
    )
