-- `header::params_of` meets its contract. Assumes nothing.
use Rattle.header.proofs.HeaderBounds.{bounds, params-grouped}
use Rattle.header.proofs.params_of.Goals as goal

pub find_group-requires : goal.find_group-requires
find_group-requires c =
    (bounds c.args.h c.args.store.now c.requires).params_shaped

pub returns : goal.returns
returns c =
    let found = c.find_group.ensures in
    λ k held. params-grouped c.args.h c.args.store.now c.args.name.now _ _ _ k held found.place found.bytes found.entries
