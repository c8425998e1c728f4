-- The digits of a number, spelt from the last one on. The number left has at most as many digits as there is room for. Assumes nothing.
use Rattle.std.specs.Prelude.{if◌then◌else◌}
use Prim.Native.Nat.{ℕ, zero, suc, ◌+◌, ◌-◌, ◌*◌, ◌^◌, ◌/◌, ◌%◌, ◌≤◌, ◌<◌}
use mathlib.Core.Path.{◌≡◌, refl, sym, ap, ◌∙◌}
use mathlib.Core.Bool.{true, false}
use mathlib.Core.List.{[], ◌∷◌}
use native.Mathlib.Omega.{arith}
use lib.Dec.{ltb}
use lib.ListN.{length, take, drop, set, length-set, length-drop, drop_of_length-le}
use lib.Seq.{take-length, drop_at, length-take-le, set_split}
use borrow.Author.Tests.{lt-ltb, le-ltb}
use Rattle.format.specs.Bytes.{Bytes}
use Rattle.format.specs.Showing.{digits_from, decimal}

-- 1 and so many zeros
unfoldable pub tens : ℕ → ℕ
tens zero = 1
tens (suc k) = 10 * tens k

-- the digits from a place on, and those of the number that is left in front of them, are those of n
pub record Spelt (n : ℕ) (digits : Bytes) (at rest : ℕ) : Type 0 where
  pub size : length digits ≡ 20
  pub some : 0 < at
  pub within : at ≤ 20
  pub small : rest < tens at
  pub same : decimal n ≡ digits_from at rest (drop at digits)

pub spelt_start : (n : ℕ) (digits : Bytes) → length digits ≡ 20 → n < 2 ^ 64 → Spelt n digits 20 n
unfolding tens decimal
spelt_start n digits h l =
    record {
      size = h;
      some = omega arith;
      within = omega arith;
      small = omega arith;
      same = ap (digits_from 20 n) (sym (drop_of_length-le digits {i = 20} (omega arith)));
    }

-- a digit is stored in front of those that stand
put_front : (digits : Bytes) (k b : ℕ) → k < length digits → drop k (set digits k b) ≡ b ∷ drop (suc k) digits
put_front digits k b h =
    rw (set_split digits k b h) (drop_at (take k digits) (b ∷ drop (suc k) digits) k (length-take-le k digits (omega arith)))

module _ {n : ℕ} {digits : Bytes} {at rest : ℕ} (s : Spelt n digits at rest) where
  -- at is k and one more
  step : (k : ℕ) → at ≡ suc k → 10 ≤ rest → Spelt n (set digits k (48 + rest % 10)) k (rest / 10)
  unfolding digits_from tens
  step k e h =
      let t : rest < 10 * tens k = rw e at s.small in
      record {
        size = rw (length-set digits k (48 + rest % 10)) s.size;
        some = positive k t;
        within = omega (arith, s.within);
        small = omega arith;
        same =
            s.same
            ∙ ap (λ (i : ℕ). digits_from i rest (drop i digits)) e
            ∙ rw (le-ltb rest 10 h) (ap (digits_from k (rest / 10)) (sym (put_front digits k (48 + rest % 10) (omega (arith, s.size, s.within)))));
      }
    where
      positive : (i : ℕ) → rest < 10 * tens i → 0 < i
      positive zero t = absurd (omega arith)
      positive (suc i) t = omega arith

  pub spelt_more : 10 ≤ rest → Spelt n (set digits (at - 1) (48 + rest % 10)) (at - 1) (rest / 10)
  spelt_more h = step (at - 1) (omega (arith, s.some)) h

  -- the last of them
  last : (k : ℕ) → at ≡ suc k → rest < 10 → drop k (set digits k (48 + rest)) ≡ decimal n
  unfolding digits_from
  last k e h =
      put_front digits k (48 + rest) (omega (arith, s.size, s.within))
      ∙ sym (s.same ∙ ap (λ (i : ℕ). digits_from i rest (drop i digits)) e ∙ rw (lt-ltb rest 10 h) refl)

  pub spelt_last : rest < 10 → drop (at - 1) (set digits (at - 1) (48 + rest)) ≡ decimal n
  spelt_last h = last (at - 1) (omega (arith, s.some)) h

-- the digits, as a part of the room for them
module _ (n from : ℕ) (digits : Bytes) (size : length digits ≡ 20) (e : drop from digits ≡ decimal n) where
  pub spelt_length : length (decimal n) ≡ 20 - from
  spelt_length = ap length (sym e) ∙ length-drop from digits ∙ ap (λ (k : ℕ). k - from) size

  pub spelt_part : take (20 - from) (drop from digits) ≡ decimal n
  spelt_part = rw (e, ← spelt_length) (take-length (decimal n))

-- how long a number is
digits_from_length : (k n : ℕ) (s : Bytes) → length (digits_from k n s) ≤ k + length s
unfolding digits_from
digits_from_length zero n s = omega arith
digits_from_length (suc k) n s = by (ltb n 10) (digits_from_length k (n / 10) ((48 + n % 10) ∷ s))
  where
    by : (t : _) → length (digits_from k (n / 10) ((48 + n % 10) ∷ s)) ≤ k + suc (length s)
        → length (if t then (48 + n) ∷ s else digits_from k (n / 10) ((48 + n % 10) ∷ s)) ≤ suc k + length s
    by true h = omega arith
    by false h = omega arith

pub decimal_length : (n : ℕ) → length (decimal n) ≤ 20
unfolding decimal
decimal_length n = omega (arith, digits_from_length 20 n [])
