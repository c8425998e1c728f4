-- Tests of each byte of a text, a byte at a time. Assumes nothing.
use Prim.Native.Nat.{ℕ, ◌+◌, ◌<◌}
use mathlib.Core.Path.{◌≡◌, refl, sym, ap, ◌∙◌}
use mathlib.Core.Bool.{Bool, true, false, ◌||◌, or-false, ◌&&◌, and-true}
use mathlib.Core.List.{[], ◌∷◌, ◌++◌}
use native.Mathlib.Numerals.{add-one}
use lib.Dec.{eqb}
use lib.ListN.{length, take, get_or}
use lib.Seq.{take-suc}
use Rattle.format.proofs.Lists.{eqb_sym, all_append}
use Rattle.format.specs.Bytes.{Bytes, all, any, has}

module _ (p : ℕ → Bool) where
  any_append : (a b : Bytes) → any p (a ++ b) ≡ (any p a || any p b)
  unfolding any
  any_append [] b = refl
  any_append (x ∷ a) b = rw (any_append a b) (or_assoc' (p x) (any p a) (any p b))
    where
      or_assoc' : (u v w : Bool) → (u || (v || w)) ≡ ((u || v) || w)
      or_assoc' true v w = refl
      or_assoc' false v w = refl

  pub any_start : (s : Bytes) → false ≡ any p (take 0 s)
  unfolding any
  any_start s = refl

  -- what a fold has of the bytes so far, with one more
  pub all_push : (s : Bytes) (x : ℕ) (a b : Bool) → a ≡ all p s → b ≡ (a && p x) → b ≡ all p (s ++ x ∷ [])
  unfolding all
  all_push s x a b h e = e ∙ ap (λ (v : Bool). v && p x) h ∙ ap (λ (v : Bool). all p s && v) (sym (and-true (p x))) ∙ sym (all_append p s (x ∷ []))

  pub any_push : (s : Bytes) (x : ℕ) (a b : Bool) → a ≡ any p s → b ≡ (a || p x) → b ≡ any p (s ++ x ∷ [])
  unfolding any
  any_push s x a b h e = e ∙ ap (λ (v : Bool). v || p x) h ∙ ap (λ (v : Bool). any p s || v) (sym (or-false (p x))) ∙ sym (any_append s (x ∷ []))

  -- what a loop has of the first k bytes, with one more
  pub any_more : (s : Bytes) (k : ℕ) (hit : Bool) → k < length s → hit ≡ any p (take k s) → (hit || p (get_or s k 0)) ≡ any p (take (k + 1) s)
  any_more s k hit h e =
      any_push (take k s) (get_or s k 0) hit (hit || p (get_or s k 0)) e refl
      ∙ ap (any p) (sym (ap (λ (n : ℕ). take n s) (add-one k) ∙ take-suc s k 0 h))

pub any_flipped : (c : ℕ) (s : Bytes) → any (λ b. eqb b c) s ≡ has c s
unfolding any
any_flipped c [] = refl
any_flipped c (b ∷ s) = rw (eqb_sym b c, any_flipped c s) refl
