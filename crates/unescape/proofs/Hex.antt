-- The number behind `\u`: the laws of its digits, with 16 and 65536 for what is no digit and no number where numbers alone are at hand.
-- Assumes nothing.
use Prim.Native.Nat.{ℕ, ◌+◌, ◌-◌, ◌*◌, ◌≤◌}
use mathlib.Core.Path.{◌≡◌, refl, sym, ◌∙◌}
use mathlib.Core.Bool.{false}
use mathlib.Core.Option.{Option, none, some}
use native.Mathlib.Omega.{arith}
use Rattle.format.specs.Characters.{◌to◌, within}
use Rattle.format.specs.Escaping.{digit_value, shifted, first_digit, four_digits}
use Rattle.format.specs.declared.Manner.{Manner}
use Rattle.format.proofs.Characters.Table.{within_intro, within_below, within_above}
use Rattle.format.proofs.Escaping.Unescape.{nothing, Below, digit_small, first_small}

-- the number, or one that stands for none
abbrev pub or_else : ℕ → Option ℕ → ℕ
or_else n none = n
or_else n (some m) = m

pub digit_decimal : (c : ℕ) → 48 ≤ c → c ≤ 57 → digit_value c ≡ some (c - 48)
unfolding digit_value
digit_decimal c h k = rw (within_intro c (48 to 57) h k) refl

pub digit_lower : (c : ℕ) → 97 ≤ c → c ≤ 102 → digit_value c ≡ some (c - 87)
unfolding digit_value
digit_lower c h k = rw (within_above c (48 to 57) (omega arith), within_intro c (97 to 102) h k) refl

pub digit_upper : (c : ℕ) → 65 ≤ c → c ≤ 70 → digit_value c ≡ some (c - 55)
unfolding digit_value
digit_upper c h k = rw (within_above c (48 to 57) (omega arith), within_below c (97 to 102) (omega arith), within_intro c (65 to 70) h k) refl

pub digit_none : (c : ℕ) → within c (48 to 57) ≡ false → within c (97 to 102) ≡ false → within c (65 to 70) ≡ false → digit_value c ≡ none
unfolding digit_value
digit_none c p q r = rw (p, q, r) refl

shifted_small : (k : ℕ) (o d : Option ℕ) → Below k o → Below 16 d → Below (k * 16) (shifted o d)
shifted_small k none d f g n h = nothing n h
shifted_small k (some m) none f g n h = nothing n h
shifted_small k (some m) (some e) f g n h = let z : m * 16 + e ≡ n = cc in omega (arith, f m refl, g e refl)

pub four_small : (r : Manner) (a b c d : ℕ) → Below 65536 (four_digits r a b c d)
unfolding four_digits
four_small r a b c d =
    shifted_small 4096 (shifted (shifted (first_digit r a) (digit_value b)) (digit_value c)) (digit_value d)
    (shifted_small 256 (shifted (first_digit r a) (digit_value b)) (digit_value c)
    (shifted_small 16 (first_digit r a) (digit_value b) (first_small r a) (digit_small b)) (digit_small c)) (digit_small d)

or_most : (k : ℕ) (o : Option ℕ) → Below k o → or_else k o ≤ k
or_most k none f = omega arith
or_most k (some n) f = omega (arith, f n refl)

pub digit_most : (c : ℕ) → or_else 16 (digit_value c) ≤ 16
digit_most c = or_most 16 (digit_value c) (digit_small c)

pub first_most : (r : Manner) (c : ℕ) → or_else 16 (first_digit r c) ≤ 16
first_most r c = or_most 16 (first_digit r c) (first_small r c)

pub four_most : (r : Manner) (a b c d : ℕ) → or_else 65536 (four_digits r a b c d) ≤ 65536
four_most r a b c d = or_most 65536 (four_digits r a b c d) (four_small r a b c d)

-- the number k stands for none
none_of : (k : ℕ) (o : Option ℕ) → Below k o → or_else k o ≡ k → o ≡ none
none_of k none f h = refl
none_of k (some n) f h = absurd (omega (arith, f n refl))

-- and any other for itself
some_of : (k x : ℕ) (o : Option ℕ) → x ≡ or_else k o → (x ≡ k → ⊥) → o ≡ some x
some_of k x none e h = absurd (h e)
some_of k x (some n) e h = rw e refl

shifted_none : (o : Option ℕ) → shifted o none ≡ none
shifted_none none = refl
shifted_none (some n) = refl

-- The four digits, as w, x, y and z say.
module _ (r : Manner) (a b c d w x y z : ℕ) (ew : w ≡ or_else 16 (first_digit r a)) (ex : x ≡ or_else 16 (digit_value b)) (ey : y ≡ or_else 16 (digit_value c)) (ez : z ≡ or_else 16 (digit_value d)) where
  pub four_first : w ≡ 16 → 65536 ≡ or_else 65536 (four_digits r a b c d)
  unfolding four_digits
  four_first h = rw (none_of 16 (first_digit r a) (first_small r a) (sym ew ∙ h)) refl

  pub four_second : x ≡ 16 → 65536 ≡ or_else 65536 (four_digits r a b c d)
  unfolding four_digits
  four_second h = rw (none_of 16 (digit_value b) (digit_small b) (sym ex ∙ h), shifted_none (first_digit r a)) refl

  pub four_third : y ≡ 16 → 65536 ≡ or_else 65536 (four_digits r a b c d)
  unfolding four_digits
  four_third h =
      rw (none_of 16 (digit_value c) (digit_small c) (sym ey ∙ h), shifted_none (shifted (first_digit r a) (digit_value b))) refl

  pub four_fourth : z ≡ 16 → 65536 ≡ or_else 65536 (four_digits r a b c d)
  unfolding four_digits
  four_fourth h =
      rw
      (none_of 16 (digit_value d) (digit_small d) (sym ez ∙ h), shifted_none (shifted (shifted (first_digit r a) (digit_value b)) (digit_value c))) refl

  pub four_all : (w ≡ 16 → ⊥) → (x ≡ 16 → ⊥) → (y ≡ 16 → ⊥) → (z ≡ 16 → ⊥) → ((w * 16 + x) * 16 + y) * 16 + z ≡ or_else 65536 (four_digits r a b c d)
  unfolding four_digits
  four_all p q t u =
      rw (some_of 16 w (first_digit r a) ew p, some_of 16 x (digit_value b) ex q, some_of 16 y (digit_value c) ey t, some_of 16 z (digit_value d) ez u) refl
