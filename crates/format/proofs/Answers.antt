-- A call's answer as numbers: the first refusal of a chain of checks decides it, and 0 is accepted. Assumes nothing.
use Prim.Native.Nat.{ℕ, ◌-◌, ◌^◌, ◌≤◌, ◌<◌, min}
use mathlib.Core.Path.{◌≡◌, refl, sym, ap, ◌∙◌}
use mathlib.Core.Bool.{true, false}
use native.Mathlib.Omega.{arith}
use lib.Dec.{eqb, ltb}
use borrow.Author.Tests.{eq-eqb, ne_eqb, le-ltb, lt-ltb, lt-leb}
use Rattle.format.specs.Refusals.{Refusal, no_room, too_short, table, ◌carrying◌, Out, accepted, refused, numbers, Check, ◌>>◌, refuse_if, at_most, passes}
use Rattle.format.specs.Calls.{room, enough}
use Rattle.format.specs.declared.Numbers.{Numbers}
use Rattle.format.proofs.Lists.{clash}
use Rattle.format.proofs.Steps.{refuse_if_passed, passes_number}

-- a number below 2 to the 64 is carried as it is
pub carried : (k n : ℕ) → n < 2 ^ 64 → k carrying n ≡ record { number = k; carried = n }
carried k n h =
    let e : min n (2 ^ 64 - 1) ≡ n = omega arith in
    λ i. record { number = k; carried = e i }

pub zero_passes : (x : Check) (n : Numbers) → n ≡ numbers x → n.number ≡ 0 → passes x ≡ true
zero_passes x n e z = sym (passes_number x) ∙ eq-eqb (numbers x).number 0 (ap (λ (m : Numbers). m.number) (sym e) ∙ z)

pub other_fails : (x : Check) (n : Numbers) → n ≡ numbers x → (n.number ≡ 0 → ⊥) → passes x ≡ false
other_fails x n e z =
    sym (passes_number x) ∙ ne_eqb (numbers x).number 0 (λ z'. z (ap (λ (m : Numbers). m.number) e ∙ z'))

-- what a refused check leaves of the rest: its own refusal
pub then_refused : {B : Type 0} (x : Check) (k : Out B) → passes x ≡ false → (r : Refusal) × (x ≡ refused r) × (◌>>◌ x k ≡ refused r)
unfolding passes ◌>>◌
then_refused (accepted a) k h = clash refl h
then_refused (refused r) k h = (r, refl, refl)

-- a store that is too short, and one that is not
module _ (store need : ℕ) where
  pub room_short : store < need → need < 2 ^ 64 → record { number = 25; carried = need } ≡ numbers (room store need)
  unfolding room refuse_if numbers table
  room_short h f = rw (lt-ltb store need h) (sym (carried 25 need f))

  pub room_enough : need ≤ store → passes (room store need) ≡ true
  unfolding room
  room_enough h = refuse_if_passed (ltb store need) (no_room need) (le-ltb store need h)

  pub space_short : store < need → need < 2 ^ 64 → record { number = 26; carried = need } ≡ numbers (enough store need)
  unfolding enough refuse_if numbers table
  space_short h f = rw (lt-ltb store need h) (sym (carried 26 need f))

  pub space_enough : need ≤ store → passes (enough store need) ≡ true
  unfolding enough
  space_enough h = refuse_if_passed (ltb store need) (too_short need) (le-ltb store need h)

-- a number over its limit, and one that is not
pub over_limit : (limit : ℕ) (r : ℕ → Refusal) (n : ℕ) → limit < n → at_most limit r n ≡ refused (r n)
unfolding at_most refuse_if
over_limit limit r n h = rw (lt-leb n limit h) refl

-- a check that passes answers 0
pub passed_numbers : (x : Check) → passes x ≡ true → record { number = 0; carried = 0 } ≡ numbers x
unfolding passes numbers
passed_numbers (accepted a) h = refl
passed_numbers (refused r) h = clash h refl
