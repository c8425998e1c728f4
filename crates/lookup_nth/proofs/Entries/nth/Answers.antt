-- `lookup_nth::Entries::nth` meets its contract. Assumes nothing.
use mathlib.Core.Path.{◌≡◌, refl, sym}
use mathlib.Core.Bool.{true}
use native.Mathlib.Omega.{arith}
use lib.ListN.{drop}
use Rattle.store_entries.specs.Stored.{stored_in, shaped}
use Rattle.store_entries.proofs.EntryShape.{within_numbers}
use Rattle.lookup_nth.proofs.NthPlace.{too_few, place_shaped, place_entry}
use Rattle.lookup_nth.proofs.Entries.nth.Goals as goal
use Rattle.lookup_nth.proofs.Entries.nth.Goals.{After-pass_first-at}

here : (c : After-pass_first-at) → shaped (drop c.pass_first-at.result c.args.self.bytes.now) ≡ true
here c =
    let placed = c.pass_first-at in
    place_shaped c.args.self.bytes.now c.args.self.count c.args.n placed.result c.requires (omega arith) placed.ensures

pub returns-then-count-n : goal.returns-then-count-n
returns-then-count-n c = sym (too_few c.args.n c.args.self.count c.args.self.bytes.now (omega arith))

pub name_at-requires : goal.name_at-requires
name_at-requires c = here (goal.at.name_at-requires c).After-pass_first-at

pub value_at-requires : goal.value_at-requires
value_at-requires c = here (goal.at.value_at-requires c).After-pass_first-at

pub tail_at-requires : goal.tail_at-requires
tail_at-requires c = here (goal.at.tail_at-requires c).After-pass_first-at

pub param_count-requires : goal.param_count-requires
param_count-requires c =
    within_numbers c.args.self.bytes.now c.pass_first-at.result (here (goal.at.param_count-requires c).After-pass_first-at)

pub returns : goal.returns
unfolding stored_in
returns c =
    let placed = c.pass_first-at in
    rw (place_entry c.args.self.bytes.now c.args.self.count c.args.n placed.result c.requires (omega arith) placed.ensures, c.name_at.ensures, c.value_at.ensures, c.tail_at.ensures, c.param_count.ensures.0) refl
