-- An argument at a place of a script: its number and its bytes, and where it ends. Assumes nothing.
use Prim.Native.Nat.{ℕ, ◌+◌, ◌-◌, ◌*◌, ◌≤◌, ◌<◌}
use mathlib.Core.Path.{◌≡◌, refl, sym, ap, ◌∙◌}
use mathlib.Core.Bool.{Bool, true, false, ◌&&◌}
use mathlib.Core.Option.{none, some}
use native.Mathlib.Nat.{add-zero}
use native.Mathlib.Omega.{arith}
use lib.ListN.{length, take, drop, get_or, length-drop}
use lib.Seq.{get_or-drop, drop-drop}
use borrow.Author.Tests.{le-leb, lt-leb}
use Rattle.format.specs.Bytes.{Bytes}
use Rattle.format.proofs.Rulesets.{tests}
use Rattle.calls_script.specs.Script.{number_in, whole, argument, argument_size, behind, end_of}

pub false_left : (a b : Bool) → a ≡ false → (a && b) ≡ false
false_left a b h = rw h refl

pub false_right : (a b : Bool) → a ≡ true → b ≡ false → (a && b) ≡ false
false_right a b h k = rw (h, k) refl

-- the place behind what stands whole, or not
pub end_some : (b : Bool) (n : ℕ) → b ≡ true → some n ≡ end_of b n
unfolding end_of
end_some b n h = rw h refl

pub end_none : (b : Bool) (n : ℕ) → b ≡ false → none ≡ end_of b n
unfolding end_of
end_none b n h = rw h refl

-- a place is behind what stands whole
pub some_end : (b : Bool) (n r : ℕ) → some r ≡ end_of b n → (b ≡ true) × (r ≡ n)
unfolding end_of
some_end true n r e = (refl, cc)
some_end false n r e = absurd (cc)

-- and none is behind nothing
pub none_end : (b : Bool) (n : ℕ) → none ≡ end_of b n → b ≡ false
unfolding end_of
none_end true n e = absurd (cc)
none_end false n e = refl

module _ (s : Bytes) (at : ℕ) where
  -- the bytes of a number
  pub number_is : number_in (drop at s) ≡ get_or s at 0 + 256 * get_or s (at + 1) 0 + 65536 * get_or s (at + 2) 0 + 16777216 * get_or s (at + 3) 0
  unfolding number_in
  number_is =
      rw (get_or-drop at s 0 0, get_or-drop at s 1 0, get_or-drop at s 2 0, get_or-drop at s 3 0, add-zero at) refl

  -- a whole argument is within the script
  pub whole_within : whole (drop at s) ≡ true → at + (4 + number_in (drop at s)) ≤ length s
  unfolding whole
  whole_within h = omega (arith, length-drop at s, simp tests at h)

  pub size_within : whole (drop at s) ≡ true → at + argument_size (drop at s) ≤ length s
  unfolding argument_size
  size_within h = whole_within h

  -- its bytes, as a part of the script
  pub argument_part : (r : ℕ) → r ≡ number_in (drop at s) → take (at + 4 + r - (at + 4)) (drop (at + 4) s) ≡ argument (drop at s)
  unfolding argument
  argument_part r e =
      let d : at + 4 + r - (at + 4) ≡ number_in (drop at s) = omega arith in
      ap (λ (n : ℕ). take n (drop (at + 4) s)) d ∙ ap (λ (x : Bytes). take (number_in (drop at s)) x) (sym (drop-drop 4 at s))

  -- what stands behind it
  pub behind_is : behind (drop at s) ≡ drop (at + argument_size (drop at s)) s
  behind_is = drop-drop (argument_size (drop at s)) at s

  -- where it ends
  pub short_end : length s - at < 4 → none ≡ end_of (whole (drop at s)) (at + argument_size (drop at s))
  unfolding whole
  short_end h = end_none _ _ (false_left _ _ (lt-leb 4 (length (drop at s)) (rw (length-drop at s) h)))

  module _ (r : ℕ) (e : r ≡ number_in (drop at s)) (first : at + 4 ≤ length s) where
    pub cut_end : length s - (at + 4) < r → none ≡ end_of (whole (drop at s)) (at + argument_size (drop at s))
    unfolding whole
    cut_end h =
        end_none _ _
        (false_right _ _ (le-leb 4 (length (drop at s)) (omega (arith, length-drop at s)))
        (lt-leb (number_in (drop at s)) (length (drop at s) - 4) (omega (arith, length-drop at s))))

    pub whole_end_lem : r ≤ length s - (at + 4) → some (at + 4 + r) ≡ end_of (whole (drop at s)) (at + argument_size (drop at s))
    unfolding whole argument_size
    whole_end_lem h =
        let n : at + 4 + r ≡ at + (4 + number_in (drop at s)) = omega arith in
        ap (λ (k : ℕ). some k) n
        ∙ end_some _ _
        (simp tests (omega (arith, length-drop at s)))
