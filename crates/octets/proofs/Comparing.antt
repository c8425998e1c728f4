-- Comparing two texts from the front: the step over one byte of each, and the ends. Assumes nothing.
use Prim.Native.Nat.{ℕ, ◌+◌, ◌≤◌, ◌<◌, min}
use mathlib.Core.Path.{◌≡◌, refl, sym, ap, ◌∙◌}
use mathlib.Core.Bool.{Bool, true, false, ◌&&◌, and-false, or-false}
use mathlib.Core.List.{[], ◌∷◌, map}
use mathlib.Core.Logic.{⊎_elim}
use native.Mathlib.Numerals.{add-one}
use native.Mathlib.Omega.{arith}
use lib.Dec.{ltb, eqb}
use lib.ListN.{length, drop, get_or, drop_of_length-le, get_or-map}
use lib.Seq.{drop-cons}
use borrow.Author.Tests.{eq-eqb, ne_eqb, lt-ltb, le-ltb}
use Rattle.std.specs.Char.{to_ascii_lowercase}
use Rattle.std.specs.Bool.{Decides}
use Rattle.std.specs.Ordering.{nat_cmp, is_lt}
use Rattle.std.proofs.Common.{Ordering}
use Rattle.std.specs.Cmp.Lexicographic.{slice_cmp, pointwise}
use Rattle.std.specs.Prelude.{nat_eq}
use Rattle.std.proofs.lemmas.Cmp.{same_from_slice_cmp}
use Rattle.std.proofs.lemmas.Bool.Decides.{nat_tests}
use Rattle.format.specs.Bytes.{Bytes, same, before, begins, occurs, lower, same_letters}
use Rattle.format.proofs.Lists.{bcase, below, clash, same_eq, same_refl}

-- ---- begins: p and t from a place on

module _ (p t : Bytes) (j k : ℕ) (hp : j < length p) (ht : k < length t) where
  pub begins_step : get_or t k 0 ≡ get_or p j 0 → begins (drop j p) (drop k t) ≡ begins (drop (j + 1) p) (drop (k + 1) t)
  unfolding begins
  begins_step e = rw (drop-cons p j 0 hp, drop-cons t k 0 ht, eq-eqb (get_or p j 0) (get_or t k 0) (sym e), add-one j, add-one k) refl

  pub begins_differs : (get_or t k 0 ≡ get_or p j 0 → ⊥) → begins (drop j p) (drop k t) ≡ false
  unfolding begins
  begins_differs e = rw (drop-cons p j 0 hp, drop-cons t k 0 ht, ne_eqb (get_or p j 0) (get_or t k 0) (λ q. e (sym q))) refl

pub begins_end : (p t : Bytes) (j : ℕ) → length p ≤ j → begins (drop j p) t ≡ true
unfolding begins
begins_end p t j h = rw (drop_of_length-le p {i = j} h) refl

-- a text shorter than the pattern does not begin with it
pub begins_short : (p t : Bytes) → length t < length p → begins p t ≡ false
unfolding begins
begins_short [] t h = absurd (omega arith)
begins_short (a ∷ p) [] h = refl
begins_short (a ∷ p) (b ∷ t) h = rw (begins_short p t (omega arith)) (and-false (eqb a b))

-- ---- same and before, the same way

-- of texts of one length
pub same_begins : (a b : Bytes) → length a ≡ length b → same a b ≡ begins a b
unfolding same begins
same_begins [] [] h = refl
same_begins [] (b ∷ t) h = absurd (omega arith)
same_begins (a ∷ s) [] h = absurd (omega arith)
same_begins (a ∷ s) (b ∷ t) h = ap (λ (x : Bool). eqb a b && x) (same_begins s t (omega arith))

-- at the end of the shorter one
pub before_ends : (a b : Bytes) (i : ℕ) → i ≡ min (length a) (length b) → before (drop i a) (drop i b) ≡ ltb (length a) (length b)
unfolding before
before_ends a b i e =
    ⊎_elim
    (λ l. rw (drop_of_length-le a {i = i} (omega arith), drop-cons b i 0 (omega arith), lt-ltb (length a) (length b) l) refl)
    (λ l. rw (drop_of_length-le b {i = i} (omega arith), le-ltb (length a) (length b) l) refl)
    (below (length a) (length b))

module _ (a b : Bytes) (i : ℕ) (ha : i < length a) (hb : i < length b) where
  pub before_differs : (get_or b i 0 ≡ get_or a i 0 → ⊥) → before (drop i a) (drop i b) ≡ ltb (get_or a i 0) (get_or b i 0)
  unfolding before
  before_differs h =
      rw (drop-cons a i 0 ha, drop-cons b i 0 hb, ne_eqb (get_or a i 0) (get_or b i 0) (λ e. h (sym e))) (or-false (ltb (get_or a i 0) (get_or b i 0)))

  pub before_step : get_or b i 0 ≡ get_or a i 0 → before (drop i a) (drop i b) ≡ before (drop (i + 1) a) (drop (i + 1) b)
  unfolding before
  before_step e =
      rw (drop-cons a i 0 ha, drop-cons b i 0 hb, le-ltb (get_or a i 0) (get_or b i 0) (omega arith), eq-eqb (get_or a i 0) (get_or b i 0) (sym e), add-one i) refl

-- ---- what the library's comparisons say

pub same_pointwise : (a b : Bytes) → pointwise nat_eq a b ≡ same a b
unfolding same
same_pointwise [] [] = refl
same_pointwise [] (b ∷ t) = refl
same_pointwise (a ∷ s) [] = refl
same_pointwise (a ∷ s) (b ∷ t) = ap (λ (x : Bool). eqb a b && x) (same_pointwise s t)

pub before_ordered : (a b : Bytes) (o : Ordering) → o ≡ slice_cmp nat_cmp a b → is_lt o ≡ before a b
unfolding before
before_ordered = same_from_slice_cmp nat_cmp is_lt before refl (λ _ _. refl) (λ _ _. refl) (λ x y xs ys o h. grind (arith, nat_tests))

pub lower_is : (b : ℕ) → to_ascii_lowercase b ≡ lower b
unfolding lower
lower_is b = grind (arith, nat_tests)

letters_same : (a b : Bytes) → same_letters a b ≡ same (map to_ascii_lowercase a) (map to_ascii_lowercase b)
unfolding same same_letters
letters_same [] [] = refl
letters_same [] (b ∷ t) = refl
letters_same (a ∷ s) [] = refl
letters_same (a ∷ s) (b ∷ t) = rw (lower_is a, lower_is b) (ap (λ (x : Bool). eqb (lower a) (lower b) && x) (letters_same s t))

-- r says whether the texts in lower case are one
pub letters_decided : (a b : Bytes) (r : Bool) → Decides r (map to_ascii_lowercase a ≡ map to_ascii_lowercase b) → r ≡ same_letters a b
letters_decided a b r (one, other) =
    rw (letters_same a b)
    (⊎_elim
    (λ h. h ∙ sym (ap (λ (x : Bytes). same x (map to_ascii_lowercase b)) (one h) ∙ same_refl (map to_ascii_lowercase b)))
    (λ h. ⊎_elim (λ s. clash (other (same_eq (map to_ascii_lowercase a) (map to_ascii_lowercase b) s)) h) (λ s. h ∙ sym s) (bcase (same (map to_ascii_lowercase a) (map to_ascii_lowercase b))))
    (bcase r))

-- ---- occurs

pub lower_at : (s : Bytes) (i : ℕ) → get_or (map lower s) i 0 ≡ lower (get_or s i 0)
unfolding lower
lower_at s i = get_or-map lower s i 0

pub occurs_end : (p t : Bytes) (k : ℕ) → length t ≤ k → occurs p (drop k t) ≡ false
unfolding occurs
occurs_end p t k h = rw (drop_of_length-le t {i = k} h) refl

pub occurs_short : (p t : Bytes) → length t < length p → occurs p t ≡ false
unfolding occurs
occurs_short p [] h = refl
occurs_short p (b ∷ t) h = rw (begins_short p (b ∷ t) h) (occurs_short p t (omega arith))

module _ (p t : Bytes) (k : ℕ) (h : k < length t) where
  pub occurs_here : begins p (drop k t) ≡ true → occurs p (drop k t) ≡ true
  unfolding occurs
  occurs_here e = rw (drop-cons t k 0 h) (rw (rw (drop-cons t k 0 h) at e) refl)

  pub occurs_later : begins p (drop k t) ≡ false → occurs p (drop k t) ≡ occurs p (drop (k + 1) t)
  unfolding occurs
  occurs_later e = rw (drop-cons t k 0 h, add-one k) (rw (rw (drop-cons t k 0 h) at e) refl)
