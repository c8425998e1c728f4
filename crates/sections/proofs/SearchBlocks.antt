-- A block of places: the least difference is 0 exactly where a pair stands, and a block without the pattern's first and
-- last byte at their distance is passed over, and so is a place without four of its bytes. Assumes nothing.
use Prim.Native.Nat.{ℕ, zero, suc, ◌+◌, ◌-◌, ◌≤◌, ◌<◌, min}
use mathlib.Core.Path.{◌≡◌, refl, sym, ap, ◌∙◌}
use mathlib.Core.Bool.{Bool, true, false, ◌&&◌, ◌||◌}
use mathlib.Core.List.{[], ◌∷◌}
use mathlib.Core.Logic.{⊎_elim}
use native.Mathlib.Omega.{arith}
use native.Mathlib.Numerals.{add-one}
use lib.Bits.{bit_or, bit_xor, and_le_l, and_le_r, or_add_and, xor_add_and, xor_self}
use lib.Dec.{eqb}
use lib.ListN.{length, take, drop, get_or, length-drop}
use lib.Seq.{drop-cons, drop-drop, get_or-drop, length-take-le}
use borrow.Author.Tests.{eq-eqb, ne_eqb}
use Rattle.format.specs.Bytes.{Bytes, begins}
use Rattle.format.proofs.Lists.{bcase, clash, rest_is}
use Rattle.format.proofs.Rulesets.{tests}
use Rattle.sections.specs.Block.{near}
use Rattle.sections.specs.Place.{place}
use Rattle.sections.proofs.Begins.{begins_byte}
use Rattle.sections.proofs.FirstPlace.{place_step, place_next, part_found, part_none}

-- 0 exactly where x is a and y is z
abbrev pub apart : ℕ → ℕ → ℕ → ℕ → ℕ
apart x a y z = bit_or (bit_xor x a) (bit_xor y z)

xor_none : (x a : ℕ) → bit_xor x a ≡ 0 → x ≡ a
xor_none x a h = omega (arith, xor_add_and x a, and_le_l x a, and_le_r x a)

apart_none : (x a y z : ℕ) → apart x a y z ≡ 0 → (x ≡ a) × (y ≡ z)
apart_none x a y z h =
    let p = bit_xor x a in
    let q = bit_xor y z in
    let s = or_add_and p q in
    let l = and_le_l p q in
    let r = and_le_r p q in
    (xor_none x a (omega arith), xor_none y z (omega arith))

apart_same : (x a y z : ℕ) → x ≡ a → y ≡ z → apart x a y z ≡ 0
apart_same x a y z h k = rw (h, k, xor_self a, xor_self z) refl

pub apart_test : (x a y z : ℕ) → (eqb x a && eqb y z) ≡ eqb (apart x a y z) 0
apart_test x a y z = ⊎_elim yes no (bcase (eqb x a && eqb y z))
  where
    yes : (eqb x a && eqb y z) ≡ true → (eqb x a && eqb y z) ≡ eqb (apart x a y z) 0
    yes h =
        let p = simp tests at h in
        h ∙ sym (eq-eqb (apart x a y z) 0 (apart_same x a y z p.0 p.1))

    no : (eqb x a && eqb y z) ≡ false → (eqb x a && eqb y z) ≡ eqb (apart x a y z) 0
    no h =
        h ∙ sym (ne_eqb (apart x a y z) 0 (λ e. clash (simp tests (apart_none x a y z e)) h))

-- the least of two is 0 where one of them is
low_min : (low d : ℕ) → eqb (min low d) 0 ≡ (eqb low 0 || eqb d 0)
low_min zero d = eq-eqb (min 0 d) 0 (omega arith)
low_min (suc n) zero = rw (ne_eqb (suc n) 0 (λ e. omega arith)) (eq-eqb (min (suc n) 0) 0 (omega arith))
low_min (suc n) (suc m) =
    rw (ne_eqb (suc n) 0 (λ e. omega arith), ne_eqb (suc m) 0 (λ e. omega arith)) (ne_eqb (min (suc n) (suc m)) 0 (λ e. omega arith))

or_assoc_3 : (x y z : Bool) → ((x || y) || z) ≡ (x || (y || z))
or_assoc_3 true y z = refl
or_assoc_3 false y z = refl

-- the least difference so far, and that of one more place
pub low_next : (low d : ℕ) (r : Bool) → (eqb low 0 || (eqb d 0 || r)) ≡ (eqb (min low d) 0 || r)
low_next low d r = sym (ap (λ (b : Bool). b || r) (low_min low d) ∙ or_assoc_3 (eqb low 0) (eqb d 0) r)

pub near_next : (a z : ℕ) (s t : Bytes) (k : ℕ) → k < length s → k < length t
    → near a z (drop k s) (drop k t) ≡ (eqb (apart (get_or s k 0) a (get_or t k 0) z) 0 || near a z (drop (k + 1) s) (drop (k + 1) t))
unfolding near
near_next a z s t k h j = rw (drop-cons s k 0 h, drop-cons t k 0 j, apart_test (get_or s k 0) a (get_or t k 0) z, add-one k) refl

pub near_end : (a z : ℕ) (s t : Bytes) → near a z (drop (length s) s) t ≡ false
unfolding near
near_end a z [] t = refl
near_end a z (b ∷ s) t = near_end a z s t

-- no pair at the first place, and none at the later ones
near_here : (a z b c : ℕ) (s t : Bytes) → near a z (b ∷ s) (c ∷ t) ≡ false → ((eqb b a && eqb c z) ≡ false) × (near a z s t ≡ false)
unfolding near
near_here a z b c s t h = simp tests at h

-- without the pattern's first and last byte a text does not begin with it
apart_begins : (m : ℕ) (p t : Bytes) → length p ≡ m + 1 → (eqb (get_or t 0 0) (get_or p 0 0) && eqb (get_or t m 0) (get_or p m 0)) ≡ false → begins p t ≡ false
apart_begins m p t l h = ⊎_elim found (λ k. k) (bcase (begins p t))
  where
    found : begins p t ≡ true → begins p t ≡ false
    found k =
        clash (simp tests (begins_byte p t 0 k (omega arith), begins_byte p t m k (omega arith))) h

-- a block of n places is passed over
pub block_clear : (n m : ℕ) (p t : Bytes) → length p ≡ m + 1 → n + m ≤ length t
    → near (get_or p 0 0) (get_or p m 0) (take n t) (take n (drop m t)) ≡ false
    → place p t ≡ n + place p (drop n t)
block_clear zero m p t l f h = omega arith
block_clear (suc n) m p [] l f h = absurd (omega arith)
block_clear (suc n) m p (b ∷ t) l f h =
    let inside : m < length (b ∷ t) = omega arith in
    let both = near_here (get_or p 0 0) (get_or p m 0) b (get_or (b ∷ t) m 0) (take n t) (take n (drop m t)) (rw (drop-cons (b ∷ t) m 0 inside) at h) in
    let other = apart_begins m p (b ∷ t) l both.0 in
    omega (arith, place_step p b t other, block_clear n m p t l (omega arith) both.1)

-- a byte of the pattern that stands at the place k
byte_at : (p s : Bytes) (k m : ℕ) → begins p (drop k s) ≡ true → m < length p → get_or (drop m s) k 0 ≡ get_or p m 0
byte_at p s k m h l =
    let turned : m + k ≡ k + m = omega arith in
    get_or-drop m s k 0 ∙ rw turned (sym (get_or-drop k s m 0)) ∙ begins_byte p (drop k s) m h l

-- the pattern's bytes 0, 1, m and n stand, counted from the place k of s
abbrev pub all_4 : Bytes → Bytes → ℕ → ℕ → ℕ → Bool
all_4 p s m n k =
    let from : ℕ → Bytes = λ j. take (length s - j) (drop j s) in
    (eqb (get_or s k 0) (get_or p 0 0) && eqb (get_or (from 1) k 0) (get_or p 1 0)) && (eqb (get_or (from m) k 0) (get_or p m 0) && eqb (get_or (from n) k 0) (get_or p n 0))

-- a place at which they do not all stand is passed over
pub unlike_next : (p s : Bytes) (m n k : ℕ) → 1 < length p → m < length p → n < length p → k < length s → all_4 p s m n k ≡ false
    → place p (drop k s) ≡ place p (drop (k + 1) s) + 1
unlike_next p s m n k l hm hn h d = place_next p s k h (⊎_elim found (λ f. f) (bcase (begins p (drop k s))))
  where
    found : begins p (drop k s) ≡ true → begins p (drop k s) ≡ false
    found b =
        let byte : (j : ℕ) → j < length p → eqb (get_or (take (length s - j) (drop j s)) k 0) (get_or p j 0) ≡ true = λ j i. rw (rest_is s j) (eq-eqb _ _ (byte_at p s k j b i)) in
        let first : eqb (get_or s k 0) (get_or p 0 0) ≡ true = eq-eqb _ _ (byte_at p s k 0 b (omega arith)) in
        clash (rw (first, byte 1 l, byte m hm, byte n hn) refl) d

-- The same by numbers: 0 where the pattern's bytes 0, 1, m and n stand
abbrev pub apart_4 : Bytes → Bytes → ℕ → ℕ → ℕ → ℕ
apart_4 p s m n k =
    let from : ℕ → Bytes = λ j. take (length s - j) (drop j s) in
    bit_or (apart (get_or s k 0) (get_or p 0 0) (get_or (from 1) k 0) (get_or p 1 0)) (apart (get_or (from m) k 0) (get_or p m 0) (get_or (from n) k 0) (get_or p n 0))

apart_all : (p s : Bytes) (m n k : ℕ) → 0 < apart_4 p s m n k → all_4 p s m n k ≡ false
apart_all p s m n k d = ⊎_elim found (λ f. f) (bcase (all_4 p s m n k))
  where
    found : all_4 p s m n k ≡ true → all_4 p s m n k ≡ false
    found h =
        let all = simp tests at h in
        let none : apart_4 p s m n k ≡ 0 = rw (apart_same _ _ _ _ all.0.0 all.0.1, apart_same _ _ _ _ all.1.0 all.1.1) refl in
        absurd (omega arith)

pub apart_next : (p s : Bytes) (m n k : ℕ) → 1 < length p → m < length p → n < length p → k < length s → 0 < apart_4 p s m n k
    → place p (drop k s) ≡ place p (drop (k + 1) s) + 1
apart_next p s m n k l hm hn h d = unlike_next p s m n k l hm hn h (apart_all p s m n k d)

-- A block of the text with n places for the pattern, from the place at on.
module _ (n : ℕ) (p t : Bytes) (at : ℕ) (l : 0 < length p) (some : 0 < n) (inside : at + (length p - 1 + n) ≤ length t) where
  abbrev block : Bytes
  block = take (at + (length p - 1 + n) - at) (drop at t)

  -- the pattern begins at none of them: the search goes on behind them
  pub block_past : n ≤ place p block → place p (drop at t) ≡ n + place p (drop (at + n) t)
  block_past h =
      let left = length-drop at t in
      part_none n (at + (length p - 1 + n) - at) (length p - 1) p (drop at t) (omega arith) (omega arith) (omega arith) h ∙ rw (drop-drop n at t) refl

  -- it does not where no pair stands at these places
  pub block_none : near (get_or p 0 0) (get_or p (length p - 1) 0) (take n block) (take (length block - (length p - 1)) (drop (length p - 1) block)) ≡ false
      → place p (drop at t) ≡ n + place p (drop (at + n) t)
  block_none h =
      let left = length-drop at t in
      let size : length block ≡ length p - 1 + n = length-take-le (at + (length p - 1 + n) - at) (drop at t) (omega arith) ∙ omega arith in
      let m : length block - (length p - 1) ≡ n = omega arith in
      block_past (omega (arith, block_clear n (length p - 1) p block (omega arith) (omega arith) (rw m at h)))

  -- it begins at one of them
  pub block_found : place p block < n → place p (drop at t) ≡ place p block
  block_found h =
      part_found n (at + (length p - 1 + n) - at) (length p - 1) p (drop at t) (omega arith) (omega arith) h
