-- The part that the second call gives, as the end of the text or the start of the buffer, by what the text's body is. Assumes nothing.
use Rattle.std.specs.Prelude.{Option, if◌then◌else◌}
use Rattle.std.specs.Option.{unwrap_or}
use Prim.Native.Nat.{ℕ, ◌+◌, ◌-◌, ◌≤◌, ◌<◌}
use mathlib.Core.Path.{◌≡◌, refl, sym, ap, subst, ◌∙◌}
use mathlib.Core.Bool.{Bool, true, false}
use native.Mathlib.Omega.{arith}
use lib.ListN.{length, take, drop, length-take, length-drop}
use borrow.Author.Tests.{le-leb, lt-leb}
use Rattle.format.specs.Bytes.{Bytes}
use Rattle.format.specs.Refusals.{Refusal, accepted, refused}
use Rattle.format.specs.LookingUp.{stands_in_text, body_of_text, body_part}
use Rattle.format.proofs.Lists.{rest_is}
use Rattle.read_split.specs.BodyPlaces.{nowhere, place_of, PlaceIs}
use Rattle.read_split.specs.declared.BodyPlace.{BodyPlace}

module _ (t buffer : Bytes) (n : ℕ) where
  -- 1, 24, 2 or 23
  pub place_none : (r : Refusal) → body_of_text t ≡ refused r → PlaceIs t buffer n nowhere
  unfolding body_part place_of
  place_none r e = record { told = rw e refl; there = rw e refl; within = omega arith }

  module _ (b : Bytes) (e : body_of_text t ≡ accepted b) where
    -- under CRLFCRLF all from a place on
    pub place_inside : stands_in_text t ≡ true → (at : ℕ) → at ≤ length t → b ≡ drop at t
        → PlaceIs t buffer n (record { in_text = true; start = at; length = length t - at })
    unfolding body_part place_of
    place_inside h at fits s =
        let back : length t - (length t - at) ≡ at = omega arith in
        record {
          told = rw (e, h, s, length-drop at t, back) refl;
          there = rw (e, h, s) (rest_is t at);
          within = omega arith;
        }

    -- under LFLF
    module _ (h : stands_in_text t ≡ false) where
      pub place_over : length buffer < n → PlaceIs t buffer n nowhere
      unfolding body_part place_of
      place_over long =
          record {
            told = rw (e, h, lt-leb n (length buffer) long) refl;
            there = rw (e, h, lt-leb n (length buffer) long) refl;
            within = omega arith;
          }

      pub place_outside : n ≤ length buffer → PlaceIs t buffer n (record { in_text = false; start = 0; length = n })
      unfolding body_part place_of
      place_outside fits =
          let size : length (take n buffer) ≡ n = length-take n buffer ∙ omega arith in
          record {
            told = rw (e, h, le-leb n (length buffer) fits, size) refl;
            there = rw (e, h, le-leb n (length buffer) fits) refl;
            within = omega arith;
          }

-- the place, or nowhere
pub place_or : (t buffer : Bytes) (n : ℕ) (q : Option BodyPlace) (d r : BodyPlace) → PlaceIs t buffer n (unwrap_or q nowhere) → d ≡ nowhere → r ≡ unwrap_or q d
    → PlaceIs t buffer n r
place_or t buffer n q d r h k e = subst (PlaceIs t buffer n) (sym (e ∙ ap (unwrap_or q) k)) h

-- What stands at a place, and that a machine word has its end.
module _ (t buffer : Bytes) (n : ℕ) (r : BodyPlace) (h : PlaceIs t buffer n r) where
  pub end_fits : (m : ℕ) → length t < m → length buffer < m → r.start + r.length < m
  end_fits m a b = by r.in_text h.within
    where
      by : (inside : Bool) → r.start + r.length ≤ length (if inside then t else buffer) → r.start + r.length < m
      by true w = omega arith
      by false w = omega arith

  module _ (inside : Bool) (e : r.in_text ≡ inside) where
    pub part_within : r.start + r.length ≤ length (if inside then t else buffer)
    part_within = subst (λ (b : Bool). r.start + r.length ≤ length (if b then t else buffer)) e h.within

    pub part_there : take (r.start + r.length - r.start) (drop r.start (if inside then t else buffer)) ≡ body_part t buffer n
    part_there =
        let size : r.start + r.length - r.start ≡ r.length = omega arith in
        ap (λ (k : ℕ). take k (drop r.start (if inside then t else buffer))) size
        ∙ subst (λ (b : Bool). take r.length (drop r.start (if b then t else buffer)) ≡ body_part t buffer n) e h.there
