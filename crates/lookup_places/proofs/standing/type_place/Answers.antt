-- `lookup_places::standing::type_place` meets its contract. Assumes nothing.
use mathlib.Core.Path.{sym, ◌∙◌}
use Rattle.lookup_places.proofs.There.{no_type, type_there}
use Rattle.lookup_places.proofs.standing.type_place.Goals as goal

pub returns-then-message_holds : goal.returns-then-message_holds
returns-then-message_holds c =
    rw c.at.ensures (type_there c.args.m c.args.head.now (sym c.message_holds.ensures ∙ c.if-message_holds.true))

pub returns-else-message_holds : goal.returns-else-message_holds
returns-else-message_holds c = no_type c.args.m c.args.head.now (sym c.message_holds.ensures ∙ c.if-message_holds.false)
