-- `code_points::ends::lost_back` meets its contract. Assumes nothing.
use mathlib.Core.Path.{◌∙◌}
use Rattle.format.proofs.Escaping.EndForm.{lost_whole}
use Rattle.code_points.proofs.LostEnds.{lost_short, back_found}
use Rattle.code_points.proofs.ends.lost_back.Goals as goal

pub returns : goal.returns
returns c = c.unwrap_or.ensures ∙ back_found c.args.s.now c.back.result (c.back.ensures _ (record { says = λ x b h. h; whole = lost_whole; short = lost_short }))
