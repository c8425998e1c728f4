-- `lookup_places::by_name::first_value_place` meets its contract. Assumes nothing.
use Rattle.format.specs.LookingUp.{get_header}
use Rattle.lookup_places.proofs.by_name.first_value_place.Goals as goal

pub returns : goal.returns
unfolding get_header
returns c = c.value_place.ensures
