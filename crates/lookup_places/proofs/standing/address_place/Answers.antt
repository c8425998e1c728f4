-- `lookup_places::standing::address_place` meets its contract. Assumes nothing.
use native.Mathlib.Omega.{arith}
use Rattle.lookup_part.proofs.AddressSigns.{span_there}
use Rattle.lookup_places.proofs.AddressPlace.{no_address_lem, address_there}
use Rattle.lookup_places.proofs.standing.address_place.Goals as goal

pub overflow_sub-to : goal.overflow_sub-to
overflow_sub-to c =
    let r = c.in-Some.field-0 in
    omega (arith, (span_there c.args.value.now r.from r.to c.in-Some.ensures).ends)

pub returns-in-Some : goal.returns-in-Some
returns-in-Some c =
    let r = c.in-Some.field-0 in
    rw c.at.ensures (address_there c.args.value.now r.from r.to c.in-Some.ensures)

pub returns-in-None : goal.returns-in-None
returns-in-None c = no_address_lem c.args.value.now c.in-None.ensures
