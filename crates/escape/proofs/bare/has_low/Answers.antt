use mathlib.Core.Path.{ap, ◌∙◌}
use native.Mathlib.Omega.{arith}
use lib.Seq.{take_all}
use Rattle.format.specs.Bytes.{any}
use Rattle.escape.specs.Bare.{is_low}
use Rattle.octets.proofs.ByteBlock.{any_start, any_more}
use Rattle.escape.proofs.bare.has_low.Goals as goal

pub loop-k-init : goal.loop-k-init
loop-k-init c = any_start is_low c.args.block.now

pub loop-k-preserved : goal.loop-k-preserved
loop-k-preserved c = any_more is_low c.args.block.now c.loop-k.k c.loop-k.hit (omega arith) c.loop-k.invariant

pub returns : goal.returns
returns c = c.loop-k.invariant ∙ ap (any is_low) (take_all c.loop-k.k c.args.block.now (omega arith))
