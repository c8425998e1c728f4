use Rattle.std.proofs.Common.{rules}
use Rattle.input.proofs.Filling.{filled_more}
use Rattle.input.proofs.read_whole.Goals as goal

pub loop-preserved : goal.loop-preserved
loop-preserved g c = record {
  within = search rules;
  bytes = filled_more _ _ _ _ _ _ _ _ _ c.loop.invariant.within c.unwrap_or-count.ensures c.loop.invariant.bytes c.read-read.ensures.bound c.read-read.ensures.bytes;
}
