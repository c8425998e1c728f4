-- `code_points::trimming::trim` meets its contract. Both ends together.
-- Assumes nothing.
use Rattle.code_points.proofs.Stripping.{trimmed}
use Rattle.code_points.proofs.trimming.trim.Goals as goal

pub returns : goal.returns
returns c = trimmed c.args.s.now c.front_end-from.result c.back_end.result c.front_end-from.ensures.1 c.back_end.ensures.1
