-- `utf8::utf8_end` meets its contract. The invariant: UTF-8 ends, from the place reached on, where it ends from the first place
-- on. A turn's laws are those of CharsEnd.antt.
-- Assumes nothing.
use mathlib.Core.Path.{refl, sym, ◌∙◌}
use native.Mathlib.Omega.{arith}
use Rattle.characters.proofs.Utf8End.{end_end}
use Rattle.utf8.proofs.Passed.{blocks_end_passed}
use Rattle.utf8.proofs.CharsEnd.{turn_keeps, turn_ends, turn_less}
use Rattle.utf8.proofs.utf8_end.Goals as goal

pub loop-at-init : goal.loop-at-init
loop-at-init c = refl

pub past_blocks-run-requires : goal.past_blocks-run-requires
past_blocks-run-requires c = omega arith

pub block_end-stop-requires : goal.block_end-stop-requires
block_end-stop-requires c =
    (blocks_end_passed c.args.s.now c.loop-at.at c.past_blocks-run.result c.past_blocks-run.ensures (omega arith)
    ).inside

pub past_part-end-requires : goal.past_part-end-requires
past_part-end-requires c =
    let run = c.past_blocks-run in
    let p = blocks_end_passed c.args.s.now c.loop-at.at run.result run.ensures (omega arith) in
    (omega (arith, c.block_end-stop.ensures, p.inside), omega (arith, c.block_end-stop.ensures))

pub returns-then-end-stop : goal.returns-then-end-stop
returns-then-end-stop c =
    let a = c.args in
    let loop = c.loop-at in
    let run = c.past_blocks-run in
    let stop = c.block_end-stop in
    let part = c.past_part-end in
    sym (loop.invariant ∙ turn_ends a.s.now loop.at run.result stop.result part.result (omega arith) run.ensures stop.ensures part.ensures c.if-end-stop.true)

pub loop-at-smaller : goal.loop-at-smaller
loop-at-smaller c =
    let a = c.args in
    let loop = c.loop-at in
    let run = c.past_blocks-run in
    let stop = c.block_end-stop in
    let part = c.past_part-end in
    turn_less a.s.now loop.at run.result stop.result part.result (omega arith) run.ensures stop.ensures part.ensures (omega arith)

pub loop-at-preserved : goal.loop-at-preserved
loop-at-preserved c =
    let a = c.args in
    let loop = c.loop-at in
    let run = c.past_blocks-run in
    let stop = c.block_end-stop in
    let part = c.past_part-end in
    loop.invariant ∙ turn_keeps a.s.now loop.at run.result stop.result part.result (omega arith) run.ensures stop.ensures part.ensures

pub returns : goal.returns
returns c = sym (c.loop-at.invariant ∙ end_end c.args.s.now c.loop-at.at (omega arith))
