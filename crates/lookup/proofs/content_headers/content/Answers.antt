-- `lookup::content_headers::content` meets its contract. Assumes nothing.
use Rattle.format.specs.Lending.{head_lent}
use Rattle.store_check.proofs.HeldDecided.{held_total}
use Rattle.lookup_nth.proofs.NthElement.{entries_shaped, nth_entry}
use Rattle.lookup.specs.OfHeld.{contents_held}
use Rattle.lookup.proofs.ContentsHeld.{nth_content}
use Rattle.lookup.proofs.content_headers.content.Goals as goal

pub nth-requires : goal.nth-requires
nth-requires c =
    let held = held_total (head_lent c.args.m c.args.head.now) in
    entries_shaped (contents_held held.0) _ _ (c.contents.ensures held.0 held.1)

pub returns : goal.returns
returns c =
    λ o held. rw (nth_content o c.args.n) (nth_entry (contents_held o) _ _ (c.contents.ensures o held) c.args.n _ c.nth.ensures)
