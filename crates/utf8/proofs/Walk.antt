-- Bytes that are sound between two settled places are characters of Table 3-7, one after another: from a settled place on
-- stands a whole character, and the place behind it is settled again. Assumes nothing.
use Prim.Native.Nat.{ℕ, zero, suc, ◌+◌, ◌≤◌, ◌<◌}
use mathlib.Core.Path.{◌≡◌, refl, ap, ◌∙◌}
use mathlib.Core.Bool.{true}
use mathlib.Core.Logic.{⊎_elim}
use mathlib.Core.List.{[], ◌∷◌}
use native.Mathlib.Omega.{arith}
use lib.ListN.{length, take, drop, get_or}
use lib.Seq.{drop-cons}
use Rattle.format.specs.Bytes.{Bytes}
use Rattle.format.specs.Characters.{well_formed}
use Rattle.format.proofs.Lists.{below}
use Rattle.format.proofs.Characters.Chars.{ascii_whole, utf8_whole}
use Rattle.characters.specs.Lengths.{utf8_end, Passed}
use Rattle.characters.proofs.Utf8End.{passed}
use Rattle.utf8.specs.Sound.{SoundAt}
use Rattle.utf8.specs.Blocks.{Settled}
use Rattle.utf8.proofs.WellFormed.{two, three, four}

-- bytes of a text by their places
one_at : (s : Bytes) (i : ℕ) → i < length s → take 1 (drop i s) ≡ get_or s i 0 ∷ []
one_at s i h = rw (drop-cons s i 0 h) refl

two_at : (s : Bytes) (i : ℕ) → suc i < length s → take 2 (drop i s) ≡ get_or s i 0 ∷ get_or s (suc i) 0 ∷ []
two_at s i h = rw (drop-cons s i 0 (omega arith), drop-cons s (suc i) 0 h) refl

three_at : (s : Bytes) (i : ℕ) → suc (suc i) < length s → take 3 (drop i s) ≡ get_or s i 0 ∷ get_or s (suc i) 0 ∷ get_or s (suc (suc i)) 0 ∷ []
three_at s i h = rw (drop-cons s i 0 (omega arith), drop-cons s (suc i) 0 (omega arith), drop-cons s (suc (suc i)) 0 h) refl

four-at :
    (s : Bytes) (i : ℕ) → suc (suc (suc i)) < length s
    → take 4 (drop i s) ≡ get_or s i 0 ∷ get_or s (suc i) 0 ∷ get_or s (suc (suc i)) 0 ∷ get_or s (suc (suc (suc i))) 0 ∷ []
four-at s i h =
    rw (drop-cons s i 0 (omega arith), drop-cons s (suc i) 0 (omega arith), drop-cons s (suc (suc i)) 0 (omega arith), drop-cons s (suc (suc (suc i))) 0 h) refl

-- a whole character is passed over
over : (s : Bytes) (i n m : ℕ) (g : Bytes) → i + n ≡ m → m ≤ length s → take n (drop i s) ≡ g → well_formed g ≡ true → utf8_end s i ≡ utf8_end s m
over s i n m g e h t w = let p = passed s i n (omega arith) (rw t (utf8_whole g w)) in p.keeps ∙ ap (utf8_end s) e

-- From the settled place three behind k on stands a whole character; the place behind it, three behind next, is settled too.
record Step (s : Bytes) (k j : ℕ) : Type 0 where
  next : ℕ
  farther : k < next
  reached : next ≤ j
  settled : Settled s next
  same_end : utf8_end s (suc (suc (suc k))) ≡ utf8_end s (suc (suc (suc next)))

module _ (s : Bytes) (j : ℕ) (fit : suc (suc (suc j)) ≤ length s) (end : Settled s j) where
  -- a byte that leads is not the last before a settled place, nor is one that leads so far the last but one or two
  past_first : (k : ℕ) → k < j → 0xC2 ≤ get_or s (suc (suc (suc k))) 0 → suc k < j
  past_first k l h =
      ⊎_elim
      (λ q. q)
      (λ q. let e : j ≡ suc k = omega arith in absurd (omega (arith, rw e at end.first)))
      (below (suc k) j)

  past_second : (k : ℕ) → suc k < j → 0xE0 ≤ get_or s (suc (suc (suc k))) 0 → suc (suc k) < j
  past_second k l h =
      ⊎_elim
      (λ q. q)
      (λ q. let e : j ≡ suc (suc k) = omega arith in absurd (omega (arith, rw e at end.second)))
      (below (suc (suc k)) j)

  past_third : (k : ℕ) → suc (suc k) < j → 0xF0 ≤ get_or s (suc (suc (suc k))) 0 → suc (suc (suc k)) < j
  past_third k l h =
      ⊎_elim
      (λ q. q)
      (λ q. let e : j ≡ suc (suc (suc k)) = omega arith in absurd (omega (arith, rw e at end.third)))
      (below (suc (suc (suc k))) j)

  module _ (k : ℕ) (l : k < j) (h : Settled s k) (sound : (i : ℕ) → k ≤ i → i < j → SoundAt s i) where
    abbrev a : ℕ
    a = get_or s (suc (suc (suc k))) 0

    step_one : a < 0x80 → Step s k j
    step_one x =
        record {
          next = suc k;
          farther = omega arith;
          reached = omega arith;
          settled = record { third = omega (arith, h.second); second = omega (arith, h.first); first = omega arith };
          same_end =
              over s (suc (suc (suc k))) 1 (suc (suc (suc (suc k)))) (a ∷ []) (omega arith) (omega arith) (one_at s (suc (suc (suc k))) (omega arith)) (ascii_whole a x);
        }

    step_two : 0xC2 ≤ a → a < 0xE0 → Step s k j
    step_two x y =
        let m = past_first k l x in
        let t = (sound (suc k) (omega arith) m).first x in
        record {
          next = suc (suc k);
          farther = omega arith;
          reached = omega arith;
          settled = record { third = omega (arith, h.first); second = y; first = omega arith };
          same_end =
              over s (suc (suc (suc k))) 2 (suc (suc (suc (suc (suc k))))) (a ∷ get_or s (suc (suc (suc (suc k)))) 0 ∷ []) (omega arith) (omega arith)
              (two_at s (suc (suc (suc k))) (omega arith))
              (two a (get_or s (suc (suc (suc (suc k)))) 0) x y t);
        }

    step_three : 0xE0 ≤ a → a < 0xF0 → Step s k j
    step_three x y =
        let m = past_first k l (omega arith) in
        let n = past_second k m x in
        let p = sound (suc k) (omega arith) m in
        let t = p.first (omega arith) in
        let u = (sound (suc (suc k)) (omega arith) n).second x in
        record {
          next = suc (suc (suc k));
          farther = omega arith;
          reached = omega arith;
          settled = record { third = y; second = omega arith; first = omega arith };
          same_end =
              over s (suc (suc (suc k))) 3 (suc (suc (suc (suc (suc (suc k))))))
              (a ∷ get_or s (suc (suc (suc (suc k)))) 0 ∷ get_or s (suc (suc (suc (suc (suc k))))) 0 ∷ [])
              (omega arith)
              (omega arith)
              (three_at s (suc (suc (suc k))) (omega arith))
              (three a (get_or s (suc (suc (suc (suc k)))) 0) (get_or s (suc (suc (suc (suc (suc k))))) 0) x y t p.behind_E0 p.behind_ED u);
        }

    step_four : 0xF0 ≤ a → Step s k j
    step_four x =
        let m = past_first k l (omega arith) in
        let n = past_second k m (omega arith) in
        let o = past_third k n x in
        let p = sound (suc k) (omega arith) m in
        let t = p.first (omega arith) in
        let u = (sound (suc (suc k)) (omega arith) n).second (omega arith) in
        let v = (sound (suc (suc (suc k))) (omega arith) o).third x in
        record {
          next = suc (suc (suc (suc k)));
          farther = omega arith;
          reached = omega arith;
          settled = record { third = omega arith; second = omega arith; first = omega arith };
          same_end =
              over s (suc (suc (suc k))) 4 (suc (suc (suc (suc (suc (suc (suc k)))))))
              (a ∷ get_or s (suc (suc (suc (suc k)))) 0 ∷ get_or s (suc (suc (suc (suc (suc k))))) 0 ∷ get_or s (suc (suc (suc (suc (suc (suc k)))))) 0 ∷ [])
              (omega arith)
              (omega arith)
              (four-at s (suc (suc (suc k))) (omega arith))
              (four
              a
              (get_or s (suc (suc (suc (suc k)))) 0)
              (get_or s (suc (suc (suc (suc (suc k))))) 0)
              (get_or s (suc (suc (suc (suc (suc (suc k)))))) 0)
              x
              (sound k (omega arith) l).greatest
              t
              p.behind_F0
              p.behind_F4
              u
              v);
        }

    step : Step s k j
    step =
        ⊎_elim
        step_one
        (λ x.
        ⊎_elim
        (step_two x)
        (λ y. ⊎_elim (step_three y) step_four (below a 0xF0))
        (below a 0xE0))
        ((sound k (omega arith) l).leading h.first h.second h.third)

  -- sound bytes between two settled places are passed over; the first number bounds the steps
  walk : (f k : ℕ) → j ≤ k + f → k ≤ j → Settled s k → ((i : ℕ) → k ≤ i → i < j → SoundAt s i) → utf8_end s (suc (suc (suc k))) ≡ utf8_end s (suc (suc (suc j)))
  walk zero k b l h sound = let e : k ≡ j = omega arith in rw e refl
  walk (suc f) k b l h sound =
      ⊎_elim
      (λ q.
      let t = step k q h sound in
      t.same_end ∙ walk f t.next (omega (arith, t.farther)) t.reached t.settled (λ i p q. sound i (omega (arith, t.farther)) q))
      (λ q. let e : k ≡ j = omega arith in rw e refl)
      (below k j)

-- a sound byte that leads stands at a settled place
pub leads_settled : (s : Bytes) (k : ℕ) → SoundAt s k → 0xC2 ≤ get_or s (suc (suc (suc k))) 0 → Settled s k
leads_settled s k h l =
    record {
      third = ⊎_elim (λ q. q) (λ q. absurd (omega (arith, h.third q))) (below (get_or s k 0) 0xF0);
      second = ⊎_elim (λ q. q) (λ q. absurd (omega (arith, h.second q))) (below (get_or s (suc k) 0) 0xE0);
      first = ⊎_elim (λ q. q) (λ q. absurd (omega (arith, h.first q))) (below (get_or s (suc (suc k)) 0) 0xC2);
    }

-- a block of sound bytes is passed over
pub block-passed :
    (s : Bytes) (k j : ℕ)
    → j + 3 ≤ length s
    → k ≤ j
    → Settled s k
    → Settled s j
    → ((i : ℕ) → k ≤ i → i < j → SoundAt s i)
    → Passed s (k + 3) (j + 3)
block-passed s k j f l h e sound =
    let three-k : k + 3 ≡ suc (suc (suc k)) = omega arith in
    let three-j : j + 3 ≡ suc (suc (suc j)) = omega arith in
    record { onward = omega arith; inside = f; keeps = rw (three-k, three-j) (walk s j (omega arith) e j k (omega arith) l h sound) }
