-- `read_split::body_part` meets its contract: it gives what stands at the place. Assumes nothing.
use mathlib.Core.Bool.{true, false}
use Prim.Native.Nat.{◌^◌}
use native.Mathlib.Omega.{arith}
use Rattle.read_split.specs.BodyPlaces.{PlaceIs}
use Rattle.read_split.proofs.BodyEnds.{place_or, end_fits, part_within, part_there}
use Rattle.read_split.proofs.body_part.Goals as goal
use Rattle.read_split.proofs.body_part.Goals.{After-unwrap_or-place}

-- the place
stands : (c : After-unwrap_or-place) → PlaceIs c.args.text.now c.args.buffer.now c.args.len c.unwrap_or-place.result
stands c = place_or _ _ _ c.body_place.result _ _ c.body_place.ensures c.nowhere.ensures c.unwrap_or-place.ensures

pub overflow_add-end : goal.overflow_add-end
overflow_add-end c = record { fits = omega (arith, end_fits _ _ _ _ (stands (goal.at.overflow_add-end c).After-unwrap_or-place) (2 ^ 64) (omega arith) (omega arith)) }

pub slice_bounds-result-end : goal.slice_bounds-result-end
slice_bounds-result-end c = omega (arith, part_within _ _ _ _ (stands (goal.at.slice_bounds-result-end c).After-unwrap_or-place) true c.if-place.true)

pub returns-then-place : goal.returns-then-place
returns-then-place c = part_there _ _ _ _ (stands (goal.at.returns-then-place c).After-unwrap_or-place) true c.if-place.true

pub slice_bounds-result-end-2 : goal.slice_bounds-result-end-2
slice_bounds-result-end-2 c = omega (arith, part_within _ _ _ _ (stands (goal.at.slice_bounds-result-end-2 c).After-unwrap_or-place) false c.if-place.false)

pub returns : goal.returns
returns c = part_there _ _ _ _ (stands (goal.at.returns c).After-unwrap_or-place) false c.if-place.false
