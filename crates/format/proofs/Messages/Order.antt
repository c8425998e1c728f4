-- Byte order is a strict order in which any two texts are equal or one comes before the other, and letters compared in any
-- case are letters compared in lower case. Assumes nothing.
use Prim.Native.Nat.{ℕ, ◌<◌}
use mathlib.Core.Path.{◌≡◌, refl, sym, ◌∙◌}
use mathlib.Core.Bool.{true, false, ◌&&◌, false≢true}
use mathlib.Core.Logic.{◌⊎◌, inl, inr, ⊎_elim, ◌↔◌}
use mathlib.Core.List.{[], ◌∷◌, map}
use native.Mathlib.Omega.{arith}
use lib.Dec.{ltb, eqb}
use borrow.Author.Tests.{eqb-true, eq-eqb, ne_eqb, ltb-true, ltb-false, lt-ltb, le-ltb}
use Rattle.format.specs.Bytes.{Bytes, before, lower, same_letters}
use Rattle.format.proofs.Lists.{bcase, clash, and_left, and_right, and_intro, or_false_left}

-- the first bytes decide, or they are equal and the rest decides
before_cons : (a b : ℕ) (s t : Bytes) → before (a ∷ s) (b ∷ t) ≡ true → (a < b) ⊎ ((a ≡ b) × (before s t ≡ true))
unfolding before
before_cons a b s t h = ⊎_elim (λ e. inl (ltb-true a b e)) other (bcase (ltb a b))
  where
    other : ltb a b ≡ false → (a < b) ⊎ ((a ≡ b) × (before s t ≡ true))
    other e =
        let k = rw e at h in
        inr (eqb-true a b (and_left (eqb a b) (before s t) k), and_right (eqb a b) (before s t) k)

before_less : (a b : ℕ) (s t : Bytes) → a < b → before (a ∷ s) (b ∷ t) ≡ true
unfolding before
before_less a b s t h = rw (lt-ltb a b h) refl

before_equal : (a b : ℕ) (s t : Bytes) → a ≡ b → before (a ∷ s) (b ∷ t) ≡ before s t
unfolding before
before_equal a b s t h = rw (le-ltb a b (omega arith), eq-eqb a b h) refl

before_more : (a b : ℕ) (s t : Bytes) → b < a → before (a ∷ s) (b ∷ t) ≡ false
unfolding before
before_more a b s t h = rw (le-ltb a b (omega arith), ne_eqb a b (omega arith)) refl

-- neither of the first bytes is the smaller one where neither text comes before the other
before_heads : (a b : ℕ) (s t : Bytes) → before (a ∷ s) (b ∷ t) ≡ false → before (b ∷ t) (a ∷ s) ≡ false → a ≡ b
unfolding before
before_heads a b s t h k =
    omega (arith, ltb-false a b (or_false_left (ltb a b) (eqb a b && before s t) h), ltb-false b a (or_false_left (ltb b a) (eqb b a && before t s) k))

pub before_irreflexive : (s : Bytes) → before s s ≡ false
unfolding before
before_irreflexive [] = refl
before_irreflexive (a ∷ s) = before_equal a a s s refl ∙ before_irreflexive s

transitive_step : (a b c : ℕ) (s t u : Bytes) → (before s t ≡ true → before t u ≡ true → before s u ≡ true)
    → (a < b) ⊎ ((a ≡ b) × (before s t ≡ true)) → (b < c) ⊎ ((b ≡ c) × (before t u ≡ true)) → before (a ∷ s) (c ∷ u) ≡ true
transitive_step a b c s t u ih (inl h) (inl k) = before_less a c s u (omega arith)
transitive_step a b c s t u ih (inl h) (inr k) = before_less a c s u (omega arith)
transitive_step a b c s t u ih (inr h) (inl k) = before_less a c s u (omega arith)
transitive_step a b c s t u ih (inr h) (inr k) = before_equal a c s u (omega arith) ∙ ih h.1 k.1

pub before_transitive : (s t u : Bytes) → before s t ≡ true → before t u ≡ true → before s u ≡ true
unfolding before
before_transitive s [] u h k = absurd (false≢true h)
before_transitive s (b ∷ t) [] h k = absurd (false≢true k)
before_transitive [] (b ∷ t) (c ∷ u) h k = refl
before_transitive (a ∷ s) (b ∷ t) (c ∷ u) h k = transitive_step a b c s t u (before_transitive s t u) (before_cons a b s t h) (before_cons b c t u k)

pub before_total : (s t : Bytes) → before s t ≡ false → before t s ≡ false → s ≡ t
unfolding before
before_total [] [] h k = refl
before_total [] (b ∷ t) h k = absurd (false≢true (sym h))
before_total (a ∷ s) [] h k = absurd (false≢true (sym k))
before_total (a ∷ s) (b ∷ t) h k =
    let e = before_heads a b s t h k in
    rw (e, before_total s t (sym (before_equal a b s t e) ∙ h) (sym (before_equal b a t s (sym e)) ∙ k)) refl

pub before_asym : (s t : Bytes) → before s t ≡ true → before t s ≡ false
before_asym s t h = ⊎_elim (λ k. clash (before_transitive s t s h k) (before_irreflexive s)) (λ k. k) (bcase (before t s))

-- not to come before is transitive too, as ≤ is
pub not_before_transitive : (s t u : Bytes) → before t s ≡ false → before u t ≡ false → before u s ≡ false
not_before_transitive s t u h k = ⊎_elim below (λ e. e) (bcase (before u s))
  where
    below : before u s ≡ true → before u s ≡ false
    below e =
        ⊎_elim (λ f. clash (before_transitive t u s f e) h) (λ f. rw (before_total u t k f) h) (bcase (before t u))

pub same_letters_refl : (s : Bytes) → same_letters s s ≡ true
unfolding same_letters
same_letters_refl [] = refl
same_letters_refl (a ∷ s) = and_intro (eqb (lower a) (lower a)) (same_letters s s) (eq-eqb (lower a) (lower a) refl) (same_letters_refl s)

pub same_letters_equal : (s t : Bytes) → same_letters s t ≡ true → map lower s ≡ map lower t
unfolding same_letters
same_letters_equal [] [] h = refl
same_letters_equal [] (b ∷ t) h = absurd (false≢true h)
same_letters_equal (a ∷ s) [] h = absurd (false≢true h)
same_letters_equal (a ∷ s) (b ∷ t) h =
    rw (
      eqb-true (lower a) (lower b) (and_left (eqb (lower a) (lower b)) (same_letters s t) h),
      same_letters_equal s t (and_right (eqb (lower a) (lower b)) (same_letters s t) h),
    ) refl

pub equal_same_letters : (s t : Bytes) → map lower s ≡ map lower t → same_letters s t ≡ true
unfolding same_letters
equal_same_letters [] [] h = refl
equal_same_letters [] (b ∷ t) h = cc
equal_same_letters (a ∷ s) [] h = cc
equal_same_letters (a ∷ s) (b ∷ t) h =
    and_intro (eqb (lower a) (lower b)) (same_letters s t) (eq-eqb (lower a) (lower b) (cc)) (equal_same_letters s t (cc))

pub same_letters_lower : (s t : Bytes) → (same_letters s t ≡ true) ↔ (map lower s ≡ map lower t)
same_letters_lower s t = (same_letters_equal s t, equal_same_letters s t)
