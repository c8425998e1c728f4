-- `lookup::get_header` meets its contract. Assumes nothing.
use Rattle.format.specs.LookingUp.{get_header}
use Rattle.lookup.proofs.get_header.Goals as goal

pub returns : goal.returns
unfolding get_header
returns c = c.get_header_value.ensures
