-- `roundtrip::clauses::entry_at` meets its contract. Assumes nothing.
use mathlib.Core.Path.{refl}
use Rattle.store_entries.specs.Stored.{stored_in}
use Rattle.store_entries.proofs.EntryShape.{within_numbers}
use Rattle.roundtrip.proofs.clauses.entry_at.Goals as goal

pub param_count-requires : goal.param_count-requires
param_count-requires c = within_numbers c.args.s.now c.args.at c.requires

pub returns : goal.returns
unfolding stored_in
returns c = rw (c.name_at.ensures, c.value_at.ensures, c.param_count.ensures.0, c.tail_at.ensures) refl
