-- `lookup_places::standing::alone_value_place` meets its contract. Assumes nothing.
use mathlib.Core.Path.{sym, ◌∙◌}
use Rattle.lookup_places.proofs.There.{no_value, value_there}
use Rattle.lookup_places.proofs.standing.alone_value_place.Goals as goal

pub returns-then-header_holds : goal.returns-then-header_holds
returns-then-header_holds c =
    rw c.at.ensures (value_there c.args.h c.args.store.now (sym c.header_holds.ensures ∙ c.if-header_holds.true))

pub returns-else-header_holds : goal.returns-else-header_holds
returns-else-header_holds c = no_value c.args.h c.args.store.now (sym c.header_holds.ensures ∙ c.if-header_holds.false)
