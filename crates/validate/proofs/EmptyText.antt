-- The tests that the validators make, as the definitions make them: an empty text, and a length over its limit. Assumes nothing.
use Prim.Native.Nat.{ℕ, suc}
use mathlib.Core.Path.{◌≡◌, refl, sym}
use mathlib.Core.Bool.{true, false, not}
use mathlib.Core.List.{[], ◌∷◌}
use native.Mathlib.Omega.{arith}
use lib.Dec.{eqb, leb, ltb}
use lib.ListN.{length}
use borrow.Author.Tests.{ne_eqb}
use Rattle.format.specs.Bytes.{Bytes, is_empty}

pub empty_is : (s : Bytes) → length s ≡ 0 → is_empty s ≡ true
unfolding is_empty
empty_is [] h = refl
empty_is (b ∷ s) h = absurd (omega arith)

pub empty_not : (s : Bytes) → (length s ≡ 0 → ⊥) → is_empty s ≡ false
unfolding is_empty
empty_not [] h = absurd (h refl)
empty_not (b ∷ s) h = refl

pub empty_length : (s : Bytes) → is_empty s ≡ eqb (length s) 0
unfolding is_empty
empty_length [] = refl
empty_length (b ∷ s) = sym (ne_eqb (suc (length s)) 0 (λ e. omega arith))

pub over_limit : (n m : ℕ) → not (leb n m) ≡ ltb m n
over_limit n m = grind arith

pub ruleset lengths = (empty_length, over_limit)
