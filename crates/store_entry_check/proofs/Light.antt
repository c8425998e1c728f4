-- What a text that weighs little is known by: no byte of a class that weighs as much, and ASCII throughout. Assumes nothing.
use Prim.Native.Nat.{ℕ, zero, suc, ◌+◌, ◌≤◌, ◌<◌}
use mathlib.Core.Path.{◌≡◌, refl, ap, ◌∙◌}
use mathlib.Core.Bool.{Bool, true, false, ◌||◌}
use mathlib.Core.List.{List, [], ◌∷◌}
use native.Mathlib.Omega.{arith}
use native.Mathlib.Numerals.{add-one}
use lib.Dec.{leb, ltb}
use lib.ListN.{length, drop, get_or, drop_of_length-le}
use lib.Seq.{drop-cons}
use Rattle.format.specs.Bytes.{Bytes, all, any, total}
use Rattle.format.specs.Characters.{is_ascii_control, is_utf8}
use Rattle.format.specs.Validators.{reserved_in_name, reserved_in_param_name, reserved_in_param_value}
use Rattle.format.proofs.Lists.{all_cons}
use Rattle.format.proofs.Rulesets.{tests}
use Rattle.format.proofs.Characters.Chars.{utf8_ascii_text}
use Rattle.store_entry_check.specs.Weights.{graded, weight, weights_from, weights, is_light}

-- the table has the weight of each byte
from_get_d : (k b i : ℕ) → i < k → get_or (weights_from k b) i 0 ≡ weight (b + i)
unfolding weights_from
from_get_d zero b i h = absurd (omega arith)
from_get_d (suc k) b zero h =
    let e : b ≡ b + 0 = omega arith in
    ap weight e
from_get_d (suc k) b (suc i) h =
    let e : suc b + i ≡ b + suc i = omega arith in
    from_get_d k (suc b) i (omega arith) ∙ ap weight e

pub weights_get_d : (t : List ℕ) (b : ℕ) → t ≡ weights → b < 256 → get_or t b 0 ≡ weight b
unfolding weights
weights_get_d t b e h =
    let z : 0 + b ≡ b = omega arith in
    rw e (from_get_d 256 0 b h ∙ ap weight z)

-- one byte more is weighed
pub total_step : (s : Bytes) (i sum : ℕ) → i < length s → sum + total weight (drop i s) ≡ (sum + weight (get_or s i 0)) + total weight (drop (i + 1) s)
unfolding total
total_step s i sum h = rw (drop-cons s i 0 h, add-one i) (omega arith)

pub total_end : (s : Bytes) (i sum : ℕ) → length s ≤ i → sum + total weight (drop i s) ≡ sum
unfolding total
total_end s i sum h = rw (drop_of_length-le s {i = i} h) (omega arith)

-- the grades, read backwards
graded_plain : (c v n : Bool) → graded c v n < 255 → c ≡ false
unfolding graded
graded_plain true v n h = absurd (omega arith)
graded_plain false v n h = refl

graded_value : (c v n : Bool) → graded c v n < 32 → v ≡ false
unfolding graded
graded_value true v n h = absurd (omega arith)
graded_value false true n h = absurd (omega arith)
graded_value false false n h = refl

graded_name : (c v n : Bool) → graded c v n < 1 → n ≡ false
unfolding graded
graded_name true v n h = absurd (omega arith)
graded_name false true n h = absurd (omega arith)
graded_name false false true h = absurd (omega arith)
graded_name false false false h = refl

graded_fits : (c v n : Bool) → graded c v n < 256
unfolding graded
graded_fits true v n = omega arith
graded_fits false true n = omega arith
graded_fits false false true = omega arith
graded_fits false false false = omega arith

module _ (b : ℕ) where
  pub weight_fits : weight b < 256
  unfolding weight
  weight_fits = graded_fits (is_ascii_control b || leb 0x80 b) (reserved_in_param_value b) (reserved_in_param_name b || reserved_in_name b)

  plain : weight b < 255 → (is_ascii_control b || leb 0x80 b) ≡ false
  unfolding weight
  plain h = graded_plain (is_ascii_control b || leb 0x80 b) (reserved_in_param_value b) (reserved_in_param_name b || reserved_in_name b) h

  pub light_control : weight b < 255 → is_ascii_control b ≡ false
  light_control h = (simp tests at (plain h)).0

  pub light_value : weight b < 32 → reserved_in_param_value b ≡ false
  unfolding weight
  light_value h = graded_value (is_ascii_control b || leb 0x80 b) (reserved_in_param_value b) (reserved_in_param_name b || reserved_in_name b) h

  named : weight b < 1 → (reserved_in_param_name b || reserved_in_name b) ≡ false
  unfolding weight
  named h = graded_name (is_ascii_control b || leb 0x80 b) (reserved_in_param_value b) (reserved_in_param_name b || reserved_in_name b) h

  pub light_param_name : weight b < 1 → reserved_in_param_name b ≡ false
  light_param_name h = (simp tests at (named h)).0

  pub light_name : weight b < 1 → reserved_in_name b ≡ false
  light_name h = (simp tests at (named h)).1

  light_ascii : weight b < 255 → ltb b 128 ≡ true
  light_ascii h = simp tests (simp tests at (plain h)).1

-- no byte of a class is in a text that weighs less than any of its bytes
pub none_light : (p : ℕ → Bool) (limit : ℕ) → ((b : ℕ) → weight b < limit → p b ≡ false) → (s : Bytes) → total weight s < limit → any p s ≡ false
unfolding any total
none_light p limit f [] h = refl
none_light p limit f (b ∷ s) h = rw (f b (omega arith), none_light p limit f s (omega arith)) refl

ascii_light : (s : Bytes) → total weight s < 255 → all (λ b. ltb b 128) s ≡ true
unfolding all total
ascii_light [] h = refl
ascii_light (b ∷ s) h = all_cons (λ b. ltb b 128) b s (light_ascii b (omega arith)) (ascii_light s (omega arith))

pub utf8_light : (s : Bytes) → total weight s < 255 → is_utf8 s ≡ true
utf8_light s h = utf8_ascii_text s (ascii_light s h)

-- a light text is short and weighs less than its limit
module _ (limit : ℕ) (s : Bytes) (h : is_light limit s ≡ true) where
  pub light_short : length s < 32
  unfolding is_light
  light_short = (simp tests at h).0

  pub light_weight : total weight s < limit
  unfolding is_light
  light_weight = (simp tests at h).1
