-- A text tested in parts, which may overlap. Assumes nothing.
use Prim.Native.Nat.{ℕ, ◌+◌, ◌≤◌}
use mathlib.Core.Path.{◌≡◌, refl, sym, ap, ◌∙◌}
use mathlib.Core.Bool.{Bool, true, false, ◌&&◌, and-false}
use lib.ListN.{take, drop, take-append-drop}
use lib.Seq.{take-add, take-take}
use mathlib.Core.List.{[], ◌∷◌}
use Rattle.std.specs.List.{list_all}
use Rattle.format.specs.Bytes.{Bytes, all}
use Rattle.format.proofs.Lists.{and_left, all_append}

module _ (p : ℕ → Bool) (s : Bytes) where
  all_split : (i : ℕ) → all p s ≡ (all p (take i s) && all p (drop i s))
  all_split i = ap (all p) (sym (take-append-drop i s)) ∙ all_append p (take i s) (drop i s)

  pub all_start : all p (take 0 s) ≡ true
  unfolding all
  all_start = refl

  -- the next n bytes pass
  pub all_next : (i n : ℕ) → all p (take i s) ≡ true → all p (take n (drop i s)) ≡ true → all p (take (i + n) s) ≡ true
  all_next i n e f = ap (all p) (take-add i n s) ∙ all_append p (take i s) (take n (drop i s)) ∙ rw (e, f) refl

  -- or do not
  pub all_stop : (i n : ℕ) → all p (take n (drop i s)) ≡ false → all p s ≡ false
  all_stop i n f =
      all_split i
      ∙ ap (λ (x : Bool). all p (take i s) && x)
      (ap (all p) (sym (take-append-drop n (drop i s))) ∙ all_append p (take n (drop i s)) (drop n (drop i s)) ∙ rw f refl)
      ∙ and-false (all p (take i s))

  -- what is left from j on decides, where those up to i pass and j is at most i
  pub all_last : (i j : ℕ) → j ≤ i → all p (take i s) ≡ true → all p s ≡ all p (drop j s)
  all_last i j h e =
      let f : (all p (take j (take i s)) && all p (drop j (take i s))) ≡ true =
      sym (ap (all p) (sym (take-append-drop j (take i s))) ∙ all_append p (take j (take i s)) (drop j (take i s))) ∙ e in
      let g : all p (take j s) ≡ true =
      ap (all p) (sym (take-take j i s h)) ∙ and_left (all p (take j (take i s))) (all p (drop j (take i s))) f in
      all_split j ∙ rw g refl

pub all_list : (p : ℕ → Bool) (s : Bytes) → list_all p s ≡ all p s
unfolding all
all_list p [] = refl
all_list p (b ∷ s) = ap (λ (x : Bool). p b && x) (all_list p s)
