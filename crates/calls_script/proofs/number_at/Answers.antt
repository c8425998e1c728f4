-- `calls_script::number_at` meets its contract. Assumes nothing.
use mathlib.Core.Path.{sym, ◌∙◌}
use Rattle.calls_script.proofs.ArgumentPlaces.{number_is}
use Rattle.calls_script.proofs.number_at.Goals as goal

pub returns : goal.returns
returns c =
    (c.four_bytes.ensures.0 ∙ sym (number_is c.args.s.now c.args.at), c.four_bytes.ensures.1)
