-- `lookup::alone::param` meets its contract. Assumes nothing.
use Rattle.store_check.proofs.HeldDecided.{held_alone_total}
use Rattle.lookup_nth.proofs.NthElement.{entries_shaped, nth_entry}
use Rattle.lookup.specs.OfHeld.{params_held}
use Rattle.lookup.proofs.LoneHeader.{nth_alone}
use Rattle.lookup.proofs.alone.param.Goals as goal

pub nth-requires : goal.nth-requires
nth-requires c =
    let held = held_alone_total c.args.h c.args.store.now in
    entries_shaped (params_held held.0) _ _ (c.params.ensures held.0 held.1)

pub returns : goal.returns
returns c =
    λ o held. rw (nth_alone o c.args.n) (nth_entry (params_held o) _ _ (c.params.ensures o held) c.args.n _ c.nth.ensures)
