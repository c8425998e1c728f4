-- Each answer of the code is the definition's at its case. Assumes nothing.
use Rattle.std.specs.Prelude.{if◌then◌else◌}
use Prim.Native.Nat.{ℕ, zero, suc, ◌+◌, ◌-◌, ◌≤◌, ◌<◌, max}
use mathlib.Core.Path.{◌≡◌, refl, sym, ap, ◌∙◌}
use mathlib.Core.Bool.{Bool, true, false, not, ◌&&◌, and-false}
use mathlib.Core.Logic.{⊎_elim}
use mathlib.Core.List.{[], ◌∷◌}
use native.Mathlib.Omega.{arith}
use native.Mathlib.Numerals.{add-one}
use lib.Dec.{ltb, leb}
use lib.ListN.{length, take, drop, get_or, drop_of_length-le}
use lib.Seq.{drop-cons}
use borrow.Author.Tests.{lt-ltb, le-ltb, le-leb, lt-leb}
use Rattle.std.proofs.lemmas.Bool.{not-true, not-false}
use Rattle.format.specs.Bytes.{Bytes, all}
use Rattle.format.proofs.Lists.{bcase, below}
use Rattle.utf8.specs.Sound.{all_sound}
use Rattle.utf8.specs.Blocks.{is_settled, largest_of, whole_end, sound_end, block_end, blocks_from, blocks_end}
use Rattle.utf8.proofs.Passed.{block_end_passed}

-- the largest byte of what is left, with one byte less
largest_cons : (s : Bytes) (k : ℕ) → k < length s → largest_of (drop k s) ≡ max (get_or s k 0) (largest_of (drop (k + 1) s))
unfolding largest_of
largest_cons s k h = rw (add-one k, drop-cons s k 0 h) refl

pub largest-more :
    (s : Bytes) (k m n : ℕ)
    → k < length s
    → n ≡ max m (get_or s k 0)
    → largest_of s ≡ max m (largest_of (drop k s))
    → largest_of s ≡ max n (largest_of (drop (k + 1) s))
largest-more s k m n h e i = omega (arith, largest_cons s k h)

pub largest_none : (s : Bytes) (k : ℕ) → length s ≤ k → largest_of (drop k s) ≡ 0
unfolding largest_of
largest_none s k h = rw (drop_of_length-le s h) refl

-- bytes are ASCII exactly where the largest is
pub ascii_is : (s : Bytes) → largest_of s < 0x80 → all (λ b. ltb b 0x80) s ≡ true
unfolding all largest_of
ascii_is [] h = refl
ascii_is (b ∷ s) h = rw (lt-ltb b 0x80 (omega arith)) (ascii_is s (omega arith))

ascii_not : (s : Bytes) → 0x80 ≤ largest_of s → all (λ b. ltb b 0x80) s ≡ false
unfolding all largest_of
ascii_not [] h = absurd (omega arith)
ascii_not (b ∷ s) h =
    ⊎_elim (λ l. rw (lt-ltb b 0x80 l) (ascii_not s (omega arith))) (λ l. rw (le-ltb b 0x80 l) refl) (below b 0x80)

-- the end of 64 bytes, n being the length of the part that is tested and r whether it has a fault
module _ (s : Bytes) (k n : ℕ) (r : Bool) (e : n ≡ 67) (f : r ≡ not (all_sound 64 (take n (drop k s)))) where
  judged : r ≡ not (all_sound 64 (take 67 (drop k s)))
  judged = rw e at f

  pub sound_not : r ≡ true → sound_end s k ≡ k + 3
  unfolding sound_end
  sound_not h = rw (not-true (all_sound 64 (take 67 (drop k s))) (sym judged ∙ h)) refl

  sound_is : r ≡ false → sound_end s k ≡ whole_end s k
  unfolding sound_end
  sound_is h = rw (not-false (all_sound 64 (take 67 (drop k s))) (sym judged ∙ h)) refl

  pub sound_first : r ≡ false → 0xC2 ≤ get_or s (k + 66) 0 → sound_end s k ≡ k + 66
  unfolding whole_end
  sound_first h x = sound_is h ∙ rw (le-leb 0xC2 (get_or s (k + 66) 0) x) refl

  pub sound_second : r ≡ false → get_or s (k + 66) 0 < 0xC2 → 0xE0 ≤ get_or s (k + 65) 0 → sound_end s k ≡ k + 65
  unfolding whole_end
  sound_second h x y = sound_is h ∙ rw (lt-leb 0xC2 (get_or s (k + 66) 0) x, le-leb 0xE0 (get_or s (k + 65) 0) y) refl

  pub sound_third : r ≡ false → get_or s (k + 66) 0 < 0xC2 → get_or s (k + 65) 0 < 0xE0 → 0xF0 ≤ get_or s (k + 64) 0 → sound_end s k ≡ k + 64
  unfolding whole_end
  sound_third h x y z =
      sound_is h ∙ rw (lt-leb 0xC2 (get_or s (k + 66) 0) x, lt-leb 0xE0 (get_or s (k + 65) 0) y, le-leb 0xF0 (get_or s (k + 64) 0) z) refl

  pub sound_all : r ≡ false → get_or s (k + 66) 0 < 0xC2 → get_or s (k + 65) 0 < 0xE0 → get_or s (k + 64) 0 < 0xF0 → sound_end s k ≡ k + 67
  unfolding whole_end
  sound_all h x y z =
      sound_is h ∙ rw (lt-leb 0xC2 (get_or s (k + 66) 0) x, lt-leb 0xE0 (get_or s (k + 65) 0) y, lt-leb 0xF0 (get_or s (k + 64) 0) z) refl

-- the end of a block, n being the length of the part that is tested and r its largest byte
module _ (s : Bytes) (at n r : ℕ) (e : n ≡ 64) (f : r ≡ largest_of (take n (drop at s))) where
  pub block_ascii : r < 0x80 → block_end s at ≡ at + 64
  unfolding block_end
  block_ascii h = rw (ascii_is (take 64 (drop at s)) (rw e at (rw f at h))) refl

  block_high : 0x80 ≤ r → block_end s at ≡ (if leb 3 at && is_settled s (at - 3) then sound_end s (at - 3) else at)
  unfolding block_end
  block_high h = rw (ascii_not (take 64 (drop at s)) (rw e at (rw f at h))) refl

  pub block_first : 0x80 ≤ r → at < 3 → block_end s at ≡ at
  block_first h l = block_high h ∙ rw (lt-leb 3 at l) refl

  pub block_sound : 0x80 ≤ r → 3 ≤ at → is_settled s (at - 3) ≡ true → block_end s at ≡ sound_end s (at - 3)
  block_sound h l t = block_high h ∙ rw (le-leb 3 at l, t) refl

  pub block_not : 0x80 ≤ r → is_settled s (at - 3) ≡ false → block_end s at ≡ at
  block_not h t = block_high h ∙ rw (t, and-false (leb 3 at)) refl

-- What is left behind some blocks: the end is that of the blocks from the place reached on, and the bound of the recursion is
-- no less than the bytes left.
pub record Left (s : Bytes) (from at : ℕ) : Type 0 where
  pub bound : ℕ
  pub enough : length s ≤ at + bound
  pub same_end : blocks_end s from ≡ blocks_from bound s at

pub left_all : (s : Bytes) (from : ℕ) → Left s from from
unfolding blocks_end
left_all s from = record { bound = length s; enough = omega arith; same_end = refl }

blocks_step : (k : ℕ) (s : Bytes) (at : ℕ) → 64 ≤ length s - at → blocks_from (suc k) s at ≡ blocks_from k s (block_end s at)
unfolding blocks_from
blocks_step k s at h = rw (le-leb 64 (length s - at) h) refl

blocks_short : (k : ℕ) (s : Bytes) (at : ℕ) → length s - at < 64 → blocks_from k s at ≡ at
unfolding blocks_from
blocks_short zero s at h = refl
blocks_short (suc k) s at h = rw (lt-leb 64 (length s - at) h) refl

blocks_stay : (k : ℕ) (s : Bytes) (at : ℕ) → block_end s at ≡ at → blocks_from k s at ≡ at
unfolding blocks_from
blocks_stay zero s at e = refl
blocks_stay (suc k) s at e =
    ⊎_elim (λ t. rw t (ap (blocks_from k s) e ∙ blocks_stay k s at e)) (λ t. rw t refl) (bcase (leb 64 (length s - at)))

module _ (s : Bytes) (from at : ℕ) where
  pub left_short : Left s from at → length s - at < 64 → blocks_end s from ≡ at
  left_short l h = l.same_end ∙ blocks_short l.bound s at h

  pub left_stay : (n : ℕ) → Left s from at → n ≡ block_end s at → n ≡ at → blocks_end s from ≡ at
  left_stay n l e f = l.same_end ∙ blocks_stay l.bound s at (sym e ∙ f)

  pub left_on : (n : ℕ) → Left s from at → 64 ≤ length s - at → n ≡ block_end s at → (n ≡ at → ⊥) → Left s from n
  left_on n l h e m = go l.bound l.enough l.same_end
    where
      go : (k : ℕ) → length s ≤ at + k → blocks_end s from ≡ blocks_from k s at → Left s from n
      go zero f g = absurd (omega arith)
      go (suc k) f g =
          record { bound = k; enough = omega (arith, (block_end_passed s at (omega arith)).onward); same_end = g ∙ blocks_step k s at h ∙ ap (blocks_from k s) (sym e) }
