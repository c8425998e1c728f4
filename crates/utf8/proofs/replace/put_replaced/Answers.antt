-- `utf8::replace::put_replaced` meets its contract. The invariant is Written: what is done and what is left make the whole.
-- A turn writes a run as it is, then U+FFFD.
-- Assumes nothing.
use Prim.Native.Nat.{◌+◌, ◌-◌}
use native.Mathlib.Omega.{arith}
use lib.ListN.{take, drop}
use Rattle.format.specs.Characters.{replacement, replaced}
use Rattle.octets.proofs.Written.{Written, written_none, written_length, written-more, written_all}
use Rattle.utf8.proofs.Replacing.{Run, Ill, run_inside, run_length, run_kept, run_count, run_last, ill_inside, ill_replaced, ill_room}
use Rattle.utf8.proofs.replace.put_replaced.Goals as goal

pub loop-at-init : goal.loop-at-init
loop-at-init c = (omega arith, written_none (replaced c.args.s.now) c.args.out.now c.args.at)

pub slice_bounds-copy_at-count : goal.slice_bounds-copy_at-count
slice_bounds-copy_at-count c =
    let run : Run c.args.s.now c.loop-at.from c.utf8_end-end.result = record { starts = c.loop-at.invariant.0; ends = c.utf8_end-end.ensures } in
    omega (arith, (run_inside run).0)

pub slice_bounds-copy_at-start : goal.slice_bounds-copy_at-start
slice_bounds-copy_at-start c =
    let run : Run c.args.s.now c.loop-at.from c.utf8_end-end.result = record { starts = c.loop-at.invariant.0; ends = c.utf8_end-end.ensures } in
    (run_inside run).0

pub slice_bounds-copy_at-end : goal.slice_bounds-copy_at-end
slice_bounds-copy_at-end c =
    let run : Run c.args.s.now c.loop-at.from c.utf8_end-end.result = record { starts = c.loop-at.invariant.0; ends = c.utf8_end-end.ensures } in
    (run_inside run).1

pub copy_at-requires : goal.copy_at-requires
copy_at-requires c =
    let run : Run c.args.s.now c.loop-at.from c.utf8_end-end.result = record { starts = c.loop-at.invariant.0; ends = c.utf8_end-end.ensures } in
    let fits = written_length c.loop-at.invariant.1 c.requires in
    omega (arith, fits.0, fits.1, run_count run, run_length run)

pub overflow_sub-to : goal.overflow_sub-to
overflow_sub-to c =
    let run : Run c.args.s.now c.loop-at.from c.utf8_end-end.result = record { starts = c.loop-at.invariant.0; ends = c.utf8_end-end.ensures } in
    omega (arith, (run_inside run).0)

pub overflow_add-to : goal.overflow_add-to
overflow_add-to c =
    let run : Run c.args.s.now c.loop-at.from c.utf8_end-end.result = record { starts = c.loop-at.invariant.0; ends = c.utf8_end-end.ensures } in
    let copied : Written (replaced c.args.s.now) c.args.out.now c.copy_at.new.dst c.args.at (c.loop-at.to + (c.utf8_end-end.result - c.loop-at.from)) (replaced (drop c.utf8_end-end.result c.args.s.now)) = let s = c.args.s.now in
    let from = c.loop-at.from in
    let end = c.utf8_end-end.result in
    written-more c.loop-at.invariant.1 c.requires (take (end - from) (drop from s)) (replaced (drop end s))
    c.copy_at.new.dst
    (c.loop-at.to + (end - from))
    (run_kept run)
    c.copy_at.ensures
    (omega (arith, run_length run)) in
    omega (arith, (written_length copied c.requires).1)

pub shape_of-out-then-end-s : goal.shape_of-out-then-end-s
shape_of-out-then-end-s c =
    let run : Run c.args.s.now c.loop-at.from c.utf8_end-end.result = record { starts = c.loop-at.invariant.0; ends = c.utf8_end-end.ensures } in
    let copied : Written (replaced c.args.s.now) c.args.out.now c.copy_at.new.dst c.args.at (c.loop-at.to + (c.utf8_end-end.result - c.loop-at.from)) (replaced (drop c.utf8_end-end.result c.args.s.now)) = let s = c.args.s.now in
    let from = c.loop-at.from in
    let end = c.utf8_end-end.result in
    written-more c.loop-at.invariant.1 c.requires (take (end - from) (drop from s)) (replaced (drop end s))
    c.copy_at.new.dst
    (c.loop-at.to + (end - from))
    (run_kept run)
    c.copy_at.ensures
    (omega (arith, run_length run)) in
    (written_length copied c.requires).0

pub returns-then-end-s : goal.returns-then-end-s
returns-then-end-s c =
    let run : Run c.args.s.now c.loop-at.from c.utf8_end-end.result = record { starts = c.loop-at.invariant.0; ends = c.utf8_end-end.ensures } in
    let copied : Written (replaced c.args.s.now) c.args.out.now c.copy_at.new.dst c.args.at (c.loop-at.to + (c.utf8_end-end.result - c.loop-at.from)) (replaced (drop c.utf8_end-end.result c.args.s.now)) = let s = c.args.s.now in
    let from = c.loop-at.from in
    let end = c.utf8_end-end.result in
    written-more c.loop-at.invariant.1 c.requires (take (end - from) (drop from s)) (replaced (drop end s))
    c.copy_at.new.dst
    (c.loop-at.to + (end - from))
    (run_kept run)
    c.copy_at.ensures
    (omega (arith, run_length run)) in
    let all = written_all copied c.requires
    (run_last run c.if-end-s.true) in
    record { place = all.0; bytes = all.1 }

pub put_replacement-requires : goal.put_replacement-requires
put_replacement-requires c =
    let run : Run c.args.s.now c.loop-at.from c.utf8_end-end.result = record { starts = c.loop-at.invariant.0; ends = c.utf8_end-end.ensures } in
    let copied : Written (replaced c.args.s.now) c.args.out.now c.copy_at.new.dst c.args.at (c.loop-at.to + (c.utf8_end-end.result - c.loop-at.from)) (replaced (drop c.utf8_end-end.result c.args.s.now)) = let s = c.args.s.now in
    let from = c.loop-at.from in
    let end = c.utf8_end-end.result in
    written-more c.loop-at.invariant.1 c.requires (take (end - from) (drop from s)) (replaced (drop end s))
    c.copy_at.new.dst
    (c.loop-at.to + (end - from))
    (run_kept run)
    c.copy_at.ensures
    (omega (arith, run_length run)) in
    let fits = written_length copied c.requires in
    omega (arith, fits.0, fits.1, ill_room run c.if-end-s.false)

pub overflow_add-to-in-loop-at : goal.overflow_add-to-in-loop-at
overflow_add-to-in-loop-at c =
    let run : Run c.args.s.now c.loop-at.from c.utf8_end-end.result = record { starts = c.loop-at.invariant.0; ends = c.utf8_end-end.ensures } in
    let copied : Written (replaced c.args.s.now) c.args.out.now c.copy_at.new.dst c.args.at (c.loop-at.to + (c.utf8_end-end.result - c.loop-at.from)) (replaced (drop c.utf8_end-end.result c.args.s.now)) = let s = c.args.s.now in
    let from = c.loop-at.from in
    let end = c.utf8_end-end.result in
    written-more c.loop-at.invariant.1 c.requires (take (end - from) (drop from s)) (replaced (drop end s))
    c.copy_at.new.dst
    (c.loop-at.to + (end - from))
    (run_kept run)
    c.copy_at.ensures
    (omega (arith, run_length run)) in
    omega (arith, (written_length copied c.requires).1, ill_room run c.if-end-s.false)

pub overflow_add-from : goal.overflow_add-from
overflow_add-from c =
    let run : Run c.args.s.now c.loop-at.from c.utf8_end-end.result = record { starts = c.loop-at.invariant.0; ends = c.utf8_end-end.ensures } in
    let ill : Ill c.args.s.now c.utf8_end-end.result c.subpart_len.result = record { more = c.if-end-s.false; subpart = c.subpart_len.ensures } in
    omega (arith, (ill_inside run ill).1)

pub loop-at-smaller : goal.loop-at-smaller
loop-at-smaller c =
    let run : Run c.args.s.now c.loop-at.from c.utf8_end-end.result = record { starts = c.loop-at.invariant.0; ends = c.utf8_end-end.ensures } in
    let ill : Ill c.args.s.now c.utf8_end-end.result c.subpart_len.result = record { more = c.if-end-s.false; subpart = c.subpart_len.ensures } in
    omega (arith, (run_inside run).0, (ill_inside run ill).0, (ill_inside run ill).1)

pub loop-at-preserved : goal.loop-at-preserved
loop-at-preserved c =
    let run : Run c.args.s.now c.loop-at.from c.utf8_end-end.result = record { starts = c.loop-at.invariant.0; ends = c.utf8_end-end.ensures } in
    let copied : Written (replaced c.args.s.now) c.args.out.now c.copy_at.new.dst c.args.at (c.loop-at.to + (c.utf8_end-end.result - c.loop-at.from)) (replaced (drop c.utf8_end-end.result c.args.s.now)) = let s = c.args.s.now in
    let from = c.loop-at.from in
    let end = c.utf8_end-end.result in
    written-more c.loop-at.invariant.1 c.requires (take (end - from) (drop from s)) (replaced (drop end s))
    c.copy_at.new.dst
    (c.loop-at.to + (end - from))
    (run_kept run)
    c.copy_at.ensures
    (omega (arith, run_length run)) in
    let ill : Ill c.args.s.now c.utf8_end-end.result c.subpart_len.result = record { more = c.if-end-s.false; subpart = c.subpart_len.ensures } in (
      (ill_inside run ill).1,
      written-more copied c.requires replacement (replaced (drop (c.utf8_end-end.result + c.subpart_len.result) c.args.s.now))
          c.put_replacement.new.out
          (c.loop-at.to + (c.utf8_end-end.result - c.loop-at.from) + 3)
          (ill_replaced run ill)
          c.put_replacement.ensures
          (omega arith),
    )
