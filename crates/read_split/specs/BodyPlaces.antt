-- Where the part stands that the second call for the body gives: in the text under CRLFCRLF, whose end it is, else in the buffer, whose
-- start it is. Where 1, 24, 2 or 23 applies there is no body, and the empty part that is given stands at the buffer's start, whatever the
-- separator is: 0 throughout. Assumes nothing.
use Rattle.std.specs.Prelude.{ℕ, ◌+◌, ◌-◌, ◌≤◌, ◌≡◌, Bool, true, false, length, take, drop, if◌then◌else◌}
use Rattle.format.specs.Bytes.{Bytes}
use Rattle.format.specs.Refusals.{Out, accepted, refused}
use Rattle.format.specs.LookingUp.{body_of_text, stands_in_text, body_part}
use Rattle.read_split.specs.declared.BodyPlace.{BodyPlace}

-- where 1, 24, 2 or 23 applies
abbrev pub nowhere : BodyPlace
nowhere = record { in_text = false; start = 0; length = 0 }

-- by the text's body, and whether the separator is CRLFCRLF
abbrev pub place_by : Out Bytes → Bool → Bytes → Bytes → BodyPlace
place_by (refused r) inside t part = nowhere
place_by (accepted b) true t part = record { in_text = true; start = length t - length part; length = length part }
place_by (accepted b) false t part = record { in_text = false; start = 0; length = length part }

unfoldable pub place_of : Bytes → Bytes → ℕ → BodyPlace
place_of t buffer n = place_by (body_of_text t) (stands_in_text t) t (body_part t buffer n)

-- the slice that a place is in
abbrev pub slice_of : Bytes → Bytes → BodyPlace → Bytes
slice_of t buffer r = if r.in_text then t else buffer

-- r is the part's place, and the part is what stands there
pub record PlaceIs (t buffer : Bytes) (n : ℕ) (r : BodyPlace) : Type 0 where
  pub told : r ≡ place_of t buffer n
  pub there : take r.length (drop r.start (slice_of t buffer r)) ≡ body_part t buffer n
  pub within : r.start + r.length ≤ length (slice_of t buffer r)
