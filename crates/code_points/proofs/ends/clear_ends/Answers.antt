-- `code_points::ends::clear_ends` meets its contract. Assumes nothing.
use Rattle.code_points.proofs.ClearEnds.{same_length}
use Rattle.code_points.proofs.ends.clear_ends.Goals as goal

pub returns : goal.returns
returns c = same_length c.args.s.now c.trim.result.now c.trim.ensures
