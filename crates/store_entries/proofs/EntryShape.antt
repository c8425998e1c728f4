-- The shape of an entry's bytes: what it says, where numbers and parts stand, and what it comes to where one part of it fails. Assumes nothing.
use Prim.Native.Nat.{ℕ, ◌+◌, ◌-◌, ◌*◌, ◌≤◌, ◌<◌}
use mathlib.Core.Path.{◌≡◌, refl, sym, ap, ◌∙◌}
use mathlib.Core.Bool.{Bool, true, false, ◌&&◌}
use native.Mathlib.Nat.{add-zero}
use native.Mathlib.Omega.{arith}
use lib.Dec.{eqb, leb}
use lib.ListN.{length, take, drop, get_or, length-drop}
use lib.Seq.{get_or-drop, drop-drop}
use borrow.Author.Tests.{le-leb, lt-leb, lt-ltb}
use Rattle.format.specs.Bytes.{Bytes, all}
use Rattle.format.proofs.Rulesets.{tests}
use Rattle.store_entries.specs.Stored.{name_length, value_length, param_count, tail_length, size_in, name_in, value_in, tail_in, shaped}

-- What the shape says.
pub record Shape (s : Bytes) : Type 0 where
  pub numbers : 16 ≤ length s
  pub zeros : all (eqb 0) (take 10 (drop 6 s)) ≡ true
  pub whole : size_in s ≤ length s
  pub value_low : get_or s 1 0 < 256
  pub tail_low : get_or s 4 0 < 256

pub shape : (s : Bytes) → shaped s ≡ true → Shape s
unfolding shaped
shape s h = search (simp tests at h)

pub shape_shaped : (s : Bytes) → Shape s → shaped s ≡ true
unfolding shaped
shape_shaped s h = simp tests (search)

-- the numbers of the entry at a place
module _ (s : Bytes) (at : ℕ) where
  pub name_at : name_length (drop at s) ≡ get_or s at 0
  unfolding name_length
  name_at = get_or-drop at s 0 0 ∙ ap (λ (k : ℕ). get_or s k 0) (add-zero at)

  pub value_at : value_length (drop at s) ≡ get_or s (at + 1) 0 + 256 * get_or s (at + 2) 0
  unfolding value_length
  value_at = rw (get_or-drop at s 1 0, get_or-drop at s 2 0) refl

  pub params_at : param_count (drop at s) ≡ get_or s (at + 3) 0
  unfolding param_count
  params_at = get_or-drop at s 3 0

  pub tail_at : tail_length (drop at s) ≡ get_or s (at + 4) 0 + 256 * get_or s (at + 5) 0
  unfolding tail_length
  tail_at = rw (get_or-drop at s 4 0, get_or-drop at s 5 0) refl

-- what an entry at a place needs
module _ (s : Bytes) (at : ℕ) (h : shaped (drop at s) ≡ true) where
  pub within_numbers : at + 16 ≤ length s
  within_numbers = omega (arith, (shape (drop at s) h).numbers, length-drop at s)

  pub within_size : at + size_in (drop at s) ≤ length s
  within_size = omega (arith, (shape (drop at s) h).numbers, (shape (drop at s) h).whole, length-drop at s)

  pub within_parts : at + (16 + (name_length (drop at s) + (value_length (drop at s) + tail_length (drop at s)))) ≤ length s
  unfolding size_in
  within_parts = within_size

-- its parts, as a place and a length
part_at : (s : Bytes) (at k n r : ℕ) → r ≡ n → take (at + k + r - (at + k)) (drop (at + k) s) ≡ take n (drop k (drop at s))
part_at s at k n r e =
    let d : at + k + r - (at + k) ≡ n = omega arith in
    ap (λ (i : ℕ). take i (drop (at + k) s)) d ∙ ap (take n) (sym (drop-drop k at s))

module _ (s : Bytes) (at n : ℕ) (name_is : n ≡ name_length (drop at s)) where
  pub name_part : take (at + 16 + n - (at + 16)) (drop (at + 16) s) ≡ name_in (drop at s)
  unfolding name_in
  name_part = part_at s at 16 (name_length (drop at s)) n name_is

  module _ (v : ℕ) (value_is : v ≡ value_length (drop at s)) where
    pub value_part_lem : take (at + (16 + n) + v - (at + (16 + n))) (drop (at + (16 + n)) s) ≡ value_in (drop at s)
    unfolding value_in
    value_part_lem = part_at s at (16 + n) (value_length (drop at s)) v value_is ∙ ap (λ (k : ℕ). take (value_length (drop at s)) (drop (16 + k) (drop at s))) name_is

    pub tail_part : (t : ℕ) → t ≡ tail_length (drop at s) → take (at + (16 + (n + v)) + t - (at + (16 + (n + v)))) (drop (at + (16 + (n + v))) s) ≡ tail_in (drop at s)
    unfolding tail_in
    tail_part t tail_is =
        part_at s at (16 + (n + v)) (tail_length (drop at s)) t tail_is
        ∙ rw (name_is, value_is) refl

pub size_of : (s : Bytes) (n v t : ℕ) → n ≡ name_length s → v ≡ value_length s → t ≡ tail_length s → 16 + (n + (v + t)) ≡ size_in s
unfolding size_in
size_of s n v t a b c = rw (a, b, c) refl

pub zero_part : (s : Bytes) (at : ℕ) → take (at + 16 - (at + 6)) (drop (at + 6) s) ≡ take 10 (drop 6 (drop at s))
zero_part s at =
    let d : at + 16 - (at + 6) ≡ 10 = omega arith in
    ap (λ (i : ℕ). take i (drop (at + 6) s)) d ∙ ap (take 10) (sym (drop-drop 6 at s))

-- what one part of the shape says of the whole, where it fails
pub few_shaped : (s : Bytes) → length s < 16 → shaped s ≡ false
unfolding shaped
few_shaped s h = rw (lt-leb 16 (length s) h) refl

pub zeros_shaped : (s : Bytes) → all (eqb 0) (take 10 (drop 6 s)) ≡ false → shaped s ≡ false
unfolding shaped
zeros_shaped s h = rw h (and_false (leb 16 (length s)))
  where
    and_false : (b : Bool) → (b && false) ≡ false
    and_false true = refl
    and_false false = refl

pub whole_shaped : (s : Bytes) → 16 ≤ length s → all (eqb 0) (take 10 (drop 6 s)) ≡ true → get_or s 1 0 < 256 → get_or s 4 0 < 256
    → leb (size_in s) (length s) ≡ shaped s
unfolding shaped
whole_shaped s a b c d =
    rw (le-leb 16 (length s) a, b, lt-ltb (get_or s 1 0) 256 c, lt-ltb (get_or s 4 0) 256 d) (and_true (leb (size_in s) (length s)))
  where
    and_true : (b : Bool) → b ≡ (b && true)
    and_true true = refl
    and_true false = refl
