-- The laws of `pasted`: bytes over a slice from a place on, one text behind another, and what is read before and behind them.
-- All rest on the lengths of the three parts and on `take` and `drop` of a sum. Assumes nothing.
use Prim.Native.Nat.{ℕ, zero, suc, ◌+◌, ◌-◌, ◌≤◌, ◌<◌}
use mathlib.Core.Path.{◌≡◌, refl, sym, ap, ◌∙◌}
use mathlib.Core.List.{[], ◌∷◌, ◌++◌, append_assoc, append-nil}
use native.Mathlib.Nat.{add-zero, add_assoc, zero-add, suc-add}
use native.Mathlib.Numerals.{add-one}
use native.Mathlib.Omega.{arith}
use lib.ListN.{length, take, drop, get_or, set, length-append, length-take, length-drop, take-append-drop, drop_of_length-le}
use lib.Seq.{paste, take-length, length-take-le, take_at, drop_at, take-nil, take-append-le, take-take, take-suc, drop-drop, set_split}
use Rattle.format.specs.Bytes.{Bytes, pasted, over}

-- nothing pasted changes nothing
pub pasted_nil : (at : ℕ) (d : Bytes) → pasted at [] d ≡ d
unfolding pasted
pasted_nil at d = rw (add-zero at) (take-append-drop at d)

-- a store to one place
pub pasted_one : (at b : ℕ) (d : Bytes) → at < length d → set d at b ≡ pasted at (b ∷ []) d
unfolding pasted
pasted_one at b d h = set_split d at b h ∙ ap (λ (k : ℕ). take at d ++ b ∷ drop k d) (sym (add-one at))

-- `paste` of the toolchain's library, with all of s
pub paste_pasted : (at : ℕ) (s d : Bytes) → paste d at s (length s) ≡ pasted at s d
unfolding pasted
paste_pasted at s d = rw (take-length s) (append_assoc (take at d) s (drop (at + length s) d))

pub length_pasted : (at : ℕ) (s d : Bytes) → at + length s ≤ length d → length (pasted at s d) ≡ length d
unfolding pasted
length_pasted at s d h = simp (length-append, length-take, length-drop) (omega arith)

-- at the start
pub pasted_start : (s d : Bytes) → pasted 0 s d ≡ over s d
unfolding pasted
pasted_start s d = rw (zero-add (length s)) refl

-- a text that is as long as the slice takes its place
pub pasted_all : (s d : Bytes) → length s ≡ length d → pasted 0 s d ≡ s
pasted_all s d h = rw (pasted_start s d, drop_of_length-le d {i = length s} (omega arith)) (append-nil s)

-- and one at the start is the front
pub take_front : (n : ℕ) (s d : Bytes) → length s ≡ n → take n (pasted 0 s d) ≡ s
take_front n s d h = rw (pasted_start s d) (take_at s (drop (length s) d) n h)

-- a part of a part
pub drop_take : (f n : ℕ) (l : Bytes) → drop f (take (f + n) l) ≡ take n (drop f l)
drop_take zero n l = rw (zero-add n) refl
drop_take (suc f) n [] = rw (take-nil {A = ℕ} (suc f + n)) (sym (take-nil n))
drop_take (suc f) n (x ∷ l) = rw (suc-add f n) (drop_take f n l)

module _ (at : ℕ) (s d : Bytes) (within : at ≤ length d) where
  head_length : length (take at d ++ s) ≡ at + length s
  head_length = simp (length-append, length-take-le at d) refl

  -- the pasted bytes as the front of the slice ends in them
  split_pasted : pasted at s d ≡ (take at d ++ s) ++ drop (at + length s) d
  unfolding pasted
  split_pasted = sym (append_assoc (take at d) s (drop (at + length s) d))

  pub take_pasted : take (at + length s) (pasted at s d) ≡ take at d ++ s
  take_pasted = rw split_pasted (take_at (take at d ++ s) (drop (at + length s) d) (at + length s) head_length)

  pub drop_pasted : drop (at + length s) (pasted at s d) ≡ drop (at + length s) d
  drop_pasted = rw split_pasted (drop_at (take at d ++ s) (drop (at + length s) d) (at + length s) head_length)

  -- what was pasted is read back
  pub part_pasted : take (length s) (drop at (pasted at s d)) ≡ s
  part_pasted = sym (drop_take at (length s) (pasted at s d)) ∙ ap (drop at) take_pasted ∙ drop_at (take at d) s at (length-take-le at d within)

  -- what stands before the pasted bytes is as it was
  pub take_before : (n : ℕ) → n ≤ at → take n (pasted at s d) ≡ take n d
  unfolding pasted
  take_before n h =
      take-append-le n (take at d) (s ++ drop (at + length s) d) (rw (length-take-le at d within) h)
      ∙ take-take n at d h

  pub part_before : (f n : ℕ) → f + n ≤ at → take n (drop f (pasted at s d)) ≡ take n (drop f d)
  part_before f n h = sym (drop_take f n (pasted at s d)) ∙ ap (drop f) (take_before (f + n) h) ∙ drop_take f n d

  -- and so is what stands behind them
  pub drop_behind : (n : ℕ) → at + length s ≤ n → drop n (pasted at s d) ≡ drop n d
  drop_behind n h =
      let e : at + length s + (n - (at + length s)) ≡ n = omega arith in
      ap (λ (k : ℕ). drop k (pasted at s d)) (sym e)
      ∙ sym (drop-drop (n - (at + length s)) (at + length s) (pasted at s d))
      ∙ ap (drop (n - (at + length s))) drop_pasted
      ∙ drop-drop (n - (at + length s)) (at + length s) d
      ∙ ap (λ (k : ℕ). drop k d) e

-- two texts, the second behind the first
pub pasted_pasted : (at : ℕ) (s t d : Bytes) → at ≤ length d → pasted (at + length s) t (pasted at s d) ≡ pasted at (s ++ t) d
unfolding pasted
pasted_pasted at s t d h =
    ap (λ (l : Bytes). l ++ (t ++ drop (at + length s + length t) (pasted at s d))) (take_pasted at s d h)
    ∙ ap (λ (l : Bytes). (take at d ++ s) ++ (t ++ l)) (drop_behind at s d h (at + length s + length t) (omega arith))
    ∙ simp (append_assoc, length-append, add_assoc) refl

-- two texts, the second first
pub pasted_front : (at : ℕ) (s t d : Bytes) → at + length s ≤ length d → pasted at s (pasted (at + length s) t d) ≡ pasted at (s ++ t) d
unfolding pasted
pasted_front at s t d h =
    ap (λ (l : Bytes). l ++ (s ++ drop (at + length s) (pasted (at + length s) t d))) (take_before (at + length s) t d h at (omega arith))
    ∙ ap (λ (l : Bytes). take at d ++ (s ++ l)) (drop_at (take (at + length s) d) (t ++ drop (at + length s + length t) d) (at + length s) (length-take-le (at + length s) d h))
    ∙ simp (append_assoc, length-append, add_assoc) refl

-- a byte behind the pasted ones
pub pasted_more : (at : ℕ) (s d : Bytes) (b : ℕ) → at + length s < length d → set (pasted at s d) (at + length s) b ≡ pasted at (s ++ (b ∷ [])) d
pasted_more at s d b h =
    pasted_one (at + length s) b (pasted at s d) (rw (length_pasted at s d (omega arith)) h) ∙ pasted_pasted at s (b ∷ []) d (omega arith)

-- stores one behind another
pub stores_two : (d : Bytes) (at a b : ℕ) → at + 2 ≤ length d → set (set d at a) (at + 1) b ≡ pasted at (a ∷ b ∷ []) d
stores_two d at a b h = rw (pasted_one at a d (omega arith)) (pasted_more at (a ∷ []) d b (omega arith))

pub stores_three : (d : Bytes) (at a b c : ℕ) → at + 3 ≤ length d → set (set (set d at a) (at + 1) b) (at + 2) c ≡ pasted at (a ∷ b ∷ c ∷ []) d
stores_three d at a b c h = rw (stores_two d at a b (omega arith)) (pasted_more at (a ∷ b ∷ []) d c (omega arith))

pub stores-six :
    (d : Bytes) (at a b c e f g : ℕ)
    → at + 6 ≤ length d
    → set (set (set (set (set (set d at a) (at + 1) b) (at + 2) c) (at + 3) e) (at + 4) f) (at + 5) g ≡ pasted at (a ∷ b ∷ c ∷ e ∷ f ∷ g ∷ []) d
stores-six d at a b c e f g h =
    rw (
      stores_three d at a b c (omega arith),
      pasted_more at (a ∷ b ∷ c ∷ []) d e (omega arith),
      pasted_more at (a ∷ b ∷ c ∷ e ∷ []) d f (omega arith),
    )
    (pasted_more at (a ∷ b ∷ c ∷ e ∷ f ∷ []) d g (omega arith))

-- one more byte of a text, as a loop copies it
pub pasted_next : (at : ℕ) (s d : Bytes) (i : ℕ) → i < length s → at + i < length d
    → set (pasted at (take i s) d) (at + i) (get_or s i 0) ≡ pasted at (take (i + 1) s) d
pasted_next at s d i h k =
    let e : length (take i s) ≡ i = length-take-le i s (omega arith) in
    ap (λ (n : ℕ). set (pasted at (take i s) d) (at + n) (get_or s i 0)) (sym e)
    ∙ pasted_more at (take i s) d (get_or s i 0) (rw e k)
    ∙ ap (λ (l : Bytes). pasted at l d) (sym (take-suc s i 0 h) ∙ ap (λ (n : ℕ). take n s) (sym (add-one i)))
