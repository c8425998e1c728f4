use native.Mathlib.Omega.{arith}
use Rattle.utf8.proofs.Utf8Answers.{largest-more, largest_none}
use Rattle.utf8.proofs.blocks.largest.Goals as goal
use Rattle.utf8.proofs.blocks.largest.Goals.{then-top-b, else-top-b}

pub loop-b-preserved : goal.loop-b-preserved
loop-b-preserved c =
    largest-more c.args.part.now c.loop-b.b-index c.loop-b.top c.if-top-b.top (omega arith)
    (elim c.if-top-b.branch [ then-top-b w ↦ omega arith | else-top-b w ↦ omega arith ])
    c.loop-b.invariant

pub returns : goal.returns
returns c = omega (arith, c.loop-b.invariant, largest_none c.args.part.now c.loop-b.b-index (omega arith))
