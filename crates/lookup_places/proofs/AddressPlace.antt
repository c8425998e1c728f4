-- The address in a value, where it stands. Assumes nothing.
use Prim.Native.Nat.{ℕ, ◌-◌}
use mathlib.Core.Path.{◌≡◌, sym}
use mathlib.Core.Bool.{true}
use mathlib.Core.Option.{none, some}
use native.Mathlib.Omega.{arith}
use Rattle.format.specs.Bytes.{Bytes}
use Rattle.format.specs.LookingUp.{address}
use Rattle.lookup_part.specs.AddressSpan.{span_of}
use Rattle.lookup_part.proofs.AddressSigns.{span_absent, span_there}
use Rattle.lookup_places.specs.Spots.{no_part, PartIs}
use Rattle.lookup_places.specs.Standing.{address_place}
use Rattle.lookup_places.proofs.EntryPlaces.{part_there, part_absent}

pub no_address_lem : (v : Bytes) → none ≡ span_of v → PartIs v (address_place v) (address v) no_part
no_address_lem v e = rw (sym (span_absent v e)) (part_absent v (address_place v))

pub address_there : (v : Bytes) (from to : ℕ) → some (record { from = from; to = to }) ≡ span_of v
    → PartIs v (address_place v) (address v) (record { found = true; start = from; length = to - from })
unfolding address_place
address_there v from to e =
    let s = span_there v from to e in
    rw (s.is_address, sym s.begins) (part_there v from (to - from) s.part (omega (arith, s.ends, s.within)) s.there)
