-- `lookup::accessors::body` meets its contract. Assumes nothing.
use mathlib.Core.Path.{sym, ◌∙◌}
use Rattle.lookup.proofs.TypeAndBody.{no_body, body_lacks, body_is}
use Rattle.lookup.proofs.accessors.body.Goals as goal
use Rattle.lookup.proofs.accessors.body.Goals.{then-not-message_holds-via-then-not-message_holds, then-not-message_holds-via-else-not-message_holds+then-store-m}

pub returns-then-not-message_holds : goal.returns-then-not-message_holds
returns-then-not-message_holds c =
    let args = c.args in
    elim c.then-not-message_holds.branch [
      | then-not-message_holds-via-then-not-message_holds w ↦ no_body args.m args.head.now (sym c.message_holds.ensures ∙ w.if-not-message_holds.true) args.store.now
      | then-not-message_holds-via-else-not-message_holds+then-store-m w ↦ body_lacks args.m args.head.now args.store.now w.if-store-m.true
    ]

pub returns : goal.returns
returns c =
    body_is c.args.m c.args.head.now (sym c.message_holds.ensures ∙ c.if-not-message_holds.false) c.args.store.now c.if-store-m.false
