-- `roundtrip::clauses::has_spaceless_params` meets its contract. Assumes nothing.
use Rattle.format.specs.SecondReading.{spaceless_param}
use Rattle.roundtrip.specs.Clauses.{as_entry, params_stand, stored_spaceless}
use Rattle.roundtrip.proofs.CountPassing.{none_fails}
use Rattle.roundtrip.proofs.clauses.has_spaceless_params.Goals as goal

pub first_failing-requires-clause-shaped : goal.first_failing-requires-clause-shaped
unfolding params_stand
first_failing-requires-clause-shaped c = c.requires

pub returns : goal.returns
unfolding stored_spaceless
returns c =
    none_fails _ _ c.first_failing.result _ c.is_none.ensures (c.first_failing.ensures (λ p. spaceless_param (as_entry p)) (record { says = λ e b h. h.1 }))
