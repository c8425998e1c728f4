-- A block that is ASCII, or whose bytes are sound, is passed over: the part that the code tests holds the bytes of the text, and
-- Walk.antt goes over these. Assumes nothing.
use Prim.Native.Nat.{ℕ, zero, suc, ◌+◌, ◌-◌, ◌≤◌, ◌<◌}
use mathlib.Core.Path.{◌≡◌, refl, subst, ◌∙◌}
use mathlib.Core.Bool.{true, ◌&&◌}
use mathlib.Core.Logic.{⊎_elim}
use native.Mathlib.Omega.{arith}
use lib.Dec.{ltb, leb}
use lib.ListN.{length, take, drop, get_or}
use lib.Seq.{get_or-take, get_or-drop}
use borrow.Author.Tests.{leb-true, le-leb, lt-leb}
use Rattle.format.specs.Bytes.{Bytes, all}
use Rattle.format.proofs.Lists.{bcase, below}
use Rattle.format.proofs.Rulesets.{tests}
use Rattle.format.proofs.Characters.Chars.{utf8_ascii_text}
use Rattle.characters.specs.Lengths.{Passed}
use Rattle.characters.proofs.Utf8End.{passed, stays, passed_on}
use Rattle.utf8.specs.Sound.{Sound, SoundAt, all_sound}
use Rattle.utf8.proofs.Sound.{all_from}
use Rattle.utf8.specs.Blocks.{Settled, is_settled, whole_end, sound_end, block_end, blocks_from, blocks_end}
use Rattle.utf8.proofs.Walk.{leads_settled, block-passed}

-- a place as the code counts it
settled_at : (s : Bytes) (k : ℕ) → get_or s k 0 < 0xF0 → get_or s (k + 1) 0 < 0xE0 → get_or s (k + 2) 0 < 0xC2 → Settled s k
settled_at s k x y z =
    let one : k + 1 ≡ suc k = omega arith in
    let two : k + 2 ≡ suc (suc k) = omega arith in
    record { third = x; second = rw one at y; first = rw two at z }

-- a place that passes the test is settled
settled_from : (s : Bytes) (k : ℕ) → is_settled s k ≡ true → Settled s k
unfolding is_settled
settled_from s k e =
    let p = simp tests at e in
    settled_at s k p.0 p.1.0 p.1.1

-- the bytes of a part are those of the text
sound_part : (s : Bytes) (from n i : ℕ) → i + 3 < n → SoundAt (take n (drop from s)) i → SoundAt s (from + i)
sound_part s from n i h e =
    let zero : get_or (take n (drop from s)) i 0 ≡ get_or s (from + i) 0 = part_at s from n i (from + i) refl (omega arith) in
    let one : get_or (take n (drop from s)) (suc i) 0 ≡ get_or s (suc (from + i)) 0 = part_at s from n (suc i) (suc (from + i)) (omega arith) (omega arith) in
    let two : get_or (take n (drop from s)) (suc (suc i)) 0 ≡ get_or s (suc (suc (from + i))) 0 = part_at s from n (suc (suc i)) (suc (suc (from + i))) (omega arith) (omega arith) in
    let three : get_or (take n (drop from s)) (suc (suc (suc i))) 0 ≡ get_or s (suc (suc (suc (from + i)))) 0 =
    part_at s from n (suc (suc (suc i))) (suc (suc (suc (from + i)))) (omega arith) (omega arith) in
    subst (λ (b : ℕ). Sound b (get_or s (suc (from + i)) 0) (get_or s (suc (suc (from + i))) 0) (get_or s (suc (suc (suc (from + i)))) 0)) zero
    (subst (λ (b : ℕ). Sound (get_or (take n (drop from s)) i 0) b (get_or s (suc (suc (from + i))) 0) (get_or s (suc (suc (suc (from + i)))) 0)) one
    (subst (λ (b : ℕ). Sound (get_or (take n (drop from s)) i 0) (get_or (take n (drop from s)) (suc i) 0) b (get_or s (suc (suc (suc (from + i)))) 0)) two
    (subst (λ (b : ℕ). Sound (get_or (take n (drop from s)) i 0) (get_or (take n (drop from s)) (suc i) 0) (get_or (take n (drop from s)) (suc (suc i)) 0) b) three e)))
  where
    part_at : (s : Bytes) (from n i j : ℕ) → from + i ≡ j → i < n → get_or (take n (drop from s)) i 0 ≡ get_or s j 0
    part_at s from n i j e h = get_or-take n (drop from s) i 0 h ∙ get_or-drop from s i 0 ∙ rw e refl

-- The 64 bytes three behind from are sound.
module _ (s : Bytes) (from : ℕ) (fit : from + 67 ≤ length s) (h : Settled s from) (sound : (i : ℕ) → i < 64 → SoundAt (take 67 (drop from s)) i) where
  sound_in : (i : ℕ) → from ≤ i → i < from + 64 → SoundAt s i
  sound_in i l m =
      let d : from + (i - from) ≡ i = omega arith in
      subst (λ (j : ℕ). SoundAt s j) d (sound_part s from 67 (i - from) (omega arith) (sound (i - from) (omega arith)))

  -- they are passed over up to a byte that leads
  sound_lead : (at : ℕ) → from + 3 ≤ at → at < from + 67 → 0xC2 ≤ get_or s at 0 → Passed s (from + 3) at
  sound_lead at l m g =
      let j = at - 3 in
      let e : j + 3 ≡ at = omega arith in
      let d : at ≡ suc (suc (suc j)) = omega arith in
      subst (λ (r : ℕ). Passed s (from + 3) r) e
      (block-passed s from j (omega arith) (omega arith) h (leads_settled s j (sound_in j (omega arith) (omega arith)) (rw (← d) g)) (λ i p q. sound_in i p (omega arith)))

  -- or all of them
  sound_whole : get_or s (from + 66) 0 < 0xC2 → get_or s (from + 65) 0 < 0xE0 → get_or s (from + 64) 0 < 0xF0 → Passed s (from + 3) (from + 67)
  sound_whole x y z =
      let j = from + 64 in
      let a : from + 65 ≡ j + 1 = omega arith in
      let b : from + 66 ≡ j + 2 = omega arith in
      let e : j + 3 ≡ from + 67 = omega arith in
      subst (λ (r : ℕ). Passed s (from + 3) r) e
      (block-passed s from j (omega arith) (omega arith) h (settled_at s j z (rw a at y) (rw b at x)) sound_in)

  sound_end_lem : Passed s (from + 3) (whole_end s from)
  unfolding whole_end
  sound_end_lem =
      ⊎_elim
      (λ x.
      rw (lt-leb 0xC2 (get_or s (from + 66) 0) x)
      (⊎_elim
      (λ y.
      rw (lt-leb 0xE0 (get_or s (from + 65) 0) y)
      (⊎_elim
      (λ z. rw (lt-leb 0xF0 (get_or s (from + 64) 0) z) (sound_whole x y z))
      (λ z. rw (le-leb 0xF0 (get_or s (from + 64) 0) z) (sound_lead (from + 64) (omega arith) (omega arith) (omega arith)))
      (below (get_or s (from + 64) 0) 0xF0)))
      (λ y. rw (le-leb 0xE0 (get_or s (from + 65) 0) y) (sound_lead (from + 65) (omega arith) (omega arith) (omega arith)))
      (below (get_or s (from + 65) 0) 0xE0)))
      (λ x. rw (le-leb 0xC2 (get_or s (from + 66) 0) x) (sound_lead (from + 66) (omega arith) (omega arith) (omega arith)))
      (below (get_or s (from + 66) 0) 0xC2)

-- ASCII bytes are passed over
ascii_passed : (s : Bytes) (at stop : ℕ) → at ≤ stop → stop ≤ length s → all (λ b. ltb b 0x80) (take (stop - at) (drop at s)) ≡ true → Passed s at stop
ascii_passed s at stop h f a =
    let n = stop - at in
    let e : at + n ≡ stop = omega arith in
    subst (λ (r : ℕ). Passed s at r) e (passed s at n (omega arith) (utf8_ascii_text (take n (drop at s)) a))

-- what lies before the end of the sound bytes, of a block and of blocks is passed over
sound_passed : (s : Bytes) (from : ℕ) → from + 67 ≤ length s → Settled s from → Passed s (from + 3) (sound_end s from)
unfolding sound_end
sound_passed s from f h =
    ⊎_elim
    (λ t. rw t (sound_end_lem s from f h (all_from (take 67 (drop from s)) 64 t)))
    (λ t. rw t (stays s (from + 3) (omega arith)))
    (bcase (all_sound 64 (take 67 (drop from s))))

pub block_end_passed : (s : Bytes) (at : ℕ) → at + 64 ≤ length s → Passed s at (block_end s at)
unfolding block_end
block_end_passed s at f =
    ⊎_elim
    (λ t. rw t (let e : 64 ≡ at + 64 - at = omega arith in ascii_passed s at (at + 64) (omega arith) f (rw e at t)))
    (λ t.
    rw t
    (⊎_elim
    (λ u.
    rw u
    (let p = simp tests at u in
    let e : at - 3 + 3 ≡ at = omega arith in
    subst (λ (i : ℕ). Passed s i (sound_end s (at - 3))) e
    (sound_passed s (at - 3) (omega arith) (settled_from s (at - 3) p.1))))
    (λ u. rw u (stays s at (omega arith)))
    (bcase (leb 3 at && is_settled s (at - 3)))))
    (bcase (all (λ b. ltb b 0x80) (take 64 (drop at s))))

blocks_passed : (k : ℕ) (s : Bytes) (at : ℕ) → at ≤ length s → Passed s at (blocks_from k s at)
unfolding blocks_from
blocks_passed zero s at f = stays s at f
blocks_passed (suc k) s at f =
    ⊎_elim
    (λ t.
    rw t
    (let l = leb-true 64 (length s - at) t in
    let p = block_end_passed s at (omega arith) in
    passed_on p (blocks_passed k s (block_end s at) p.inside)))
    (λ t. rw t (stays s at f))
    (bcase (leb 64 (length s - at)))

pub blocks_end_passed : (s : Bytes) (at r : ℕ) → r ≡ blocks_end s at → at ≤ length s → Passed s at r
unfolding blocks_end
blocks_end_passed s at r e f = rw e (blocks_passed (length s) s at f)
