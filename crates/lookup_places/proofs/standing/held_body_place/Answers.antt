-- `lookup_places::standing::held_body_place` meets its contract. Assumes nothing.
use mathlib.Core.Path.{sym, ◌∙◌}
use native.Mathlib.Omega.{arith}
use Rattle.lookup_places.proofs.There.{no_body, body_lacks, body_there}
use Rattle.lookup_places.proofs.standing.held_body_place.Goals as goal
use Rattle.lookup_places.proofs.standing.held_body_place.Goals.{else-message_holds-via-then-message_holds+else-m-store, else-message_holds-via-else-message_holds}

pub returns-then-m-store : goal.returns-then-m-store
returns-then-m-store c =
    rw c.at.ensures (body_there c.args.m c.args.head.now (sym c.message_holds.ensures ∙ c.if-message_holds.true) c.args.store.now (omega arith))

pub returns-else-message_holds : goal.returns-else-message_holds
returns-else-message_holds c =
    let args = c.args in
    elim c.else-message_holds.branch [
      | else-message_holds-via-then-message_holds+else-m-store w ↦ body_lacks args.m args.head.now args.store.now (omega (arith, w.if-m-store.false))
      | else-message_holds-via-else-message_holds w ↦ no_body args.m args.head.now (sym c.message_holds.ensures ∙ w.if-message_holds.false) args.store.now
    ]
