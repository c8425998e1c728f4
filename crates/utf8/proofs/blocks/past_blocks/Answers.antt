-- `utf8::blocks::past_blocks` meets its contract. The invariant: the blocks from the place reached on end where those from the first
-- place on do.
-- Assumes nothing.
use mathlib.Core.Path.{sym}
use native.Mathlib.Omega.{arith}
use Rattle.utf8.proofs.Passed.{block_end_passed}
use Rattle.utf8.proofs.Utf8Answers.{left_all, left_short, left_stay, left_on}
use Rattle.utf8.proofs.blocks.past_blocks.Goals as goal

pub loop-at-init : goal.loop-at-init
loop-at-init c = (omega arith, left_all c.args.s.now c.args.from)

pub overflow_sub-s : goal.overflow_sub-s
overflow_sub-s c = omega (arith, c.loop-at.invariant.0)

pub past_block-next-requires : goal.past_block-next-requires
past_block-next-requires c = omega (arith, c.loop-at.invariant.0)

pub returns-then-next-at : goal.returns-then-next-at
returns-then-next-at c =
    let a = c.args in
    let loop = c.loop-at in
    sym (left_stay a.s.now a.from loop.at c.past_block-next.result loop.invariant.1 c.past_block-next.ensures c.if-next-at.true)

pub loop-at-smaller : goal.loop-at-smaller
loop-at-smaller c =
    let a = c.args in
    let loop = c.loop-at in
    let p = block_end_passed a.s.now loop.at (omega arith) in
    omega (arith, p.onward, p.inside, c.past_block-next.ensures)

pub loop-at-preserved : goal.loop-at-preserved
loop-at-preserved c =
    let a = c.args in
    let loop = c.loop-at in
    let p = block_end_passed a.s.now loop.at (omega arith) in (
      omega (arith, p.inside, c.past_block-next.ensures),
      left_on a.s.now a.from loop.at c.past_block-next.result loop.invariant.1 (omega arith) c.past_block-next.ensures c.if-next-at.false,
    )

pub returns : goal.returns
returns c = let a = c.args in sym (left_short a.s.now a.from c.loop-at.at c.loop-at.invariant.1 (omega arith))
