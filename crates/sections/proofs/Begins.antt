-- Whether a text begins with a pattern, byte by byte and within a part of the text. Assumes nothing.
use Prim.Native.Nat.{ℕ, zero, suc, ◌+◌, ◌≤◌, ◌<◌}
use mathlib.Core.Path.{◌≡◌, refl, sym, ap, ◌∙◌}
use mathlib.Core.Bool.{true, false, ◌&&◌}
use mathlib.Core.List.{[], ◌∷◌}
use native.Mathlib.Omega.{arith}
use native.Mathlib.Numerals.{add-one}
use lib.Dec.{eqb}
use lib.ListN.{length, take, drop, get_or, get_or-append}
use lib.Seq.{drop-cons, drop-length}
use borrow.Author.Tests.{eq-eqb, ne_eqb}
use Rattle.format.specs.Bytes.{Bytes, begins}
use Rattle.format.proofs.Splitting.Split.{begins_drop}

module _ (p t : Bytes) (k j : ℕ) (hk : k < length p) (hj : j < length t) where
  -- the pattern's byte k against the text's byte j
  next : begins (drop k p) (drop j t) ≡ (eqb (get_or p k 0) (get_or t j 0) && begins (drop (k + 1) p) (drop (j + 1) t))
  unfolding begins
  next = rw (drop-cons p k 0 hk, drop-cons t j 0 hj, add-one k, add-one j) refl

  pub begins_same : get_or t j 0 ≡ get_or p k 0 → begins (drop k p) (drop j t) ≡ begins (drop (k + 1) p) (drop (j + 1) t)
  begins_same e = next ∙ rw (eq-eqb (get_or p k 0) (get_or t j 0) (sym e)) refl

  pub begins_differs : (get_or t j 0 ≡ get_or p k 0 → ⊥) → begins (drop k p) (drop j t) ≡ false
  begins_differs e = next ∙ rw (ne_eqb (get_or p k 0) (get_or t j 0) (λ h. e (sym h))) refl

pub begins_done : (p t : Bytes) → begins (drop (length p) p) t ≡ true
unfolding begins
begins_done p t = rw (drop-length p) refl

-- a part that is as long as the pattern, or longer, decides
pub begins_take : (p t : Bytes) (n : ℕ) → length p ≤ n → begins p (take n t) ≡ begins p t
unfolding begins
begins_take [] t n h = refl
begins_take (a ∷ p) [] zero h = refl
begins_take (a ∷ p) [] (suc n) h = refl
begins_take (a ∷ p) (b ∷ t) zero h = absurd (omega arith)
begins_take (a ∷ p) (b ∷ t) (suc n) h = rw (begins_take p t n (omega arith)) refl

-- where a text begins with the pattern it has the pattern's bytes
pub begins_byte : (p t : Bytes) (k : ℕ) → begins p t ≡ true → k < length p → get_or t k 0 ≡ get_or p k 0
begins_byte p t k h l = ap (λ (s : Bytes). get_or s k 0) (sym (begins_drop p t h)) ∙ get_or-append p (drop (length p) t) 0 k l
