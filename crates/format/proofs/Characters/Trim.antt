-- Trimming by any test on characters: what it strips, what it keeps, and when it strips nothing.
-- All of it follows from the list of characters of the text: they join to the text again, and each has a byte.
use Prim.Native.Nat.{ℕ, zero, suc, ◌+◌, ◌≤◌, ◌<◌}
use mathlib.Core.Path.{◌≡◌, refl, sym, ap, ◌∙◌}
use mathlib.Core.Bool.{Bool, true, false, not, ◌&&◌}
use mathlib.Core.Logic.{⊎_elim}
use mathlib.Core.List.{List, [], ◌∷◌}
use native.Mathlib.Omega.{arith}
use lib.ListN.{length, drop, length-append}
use borrow.Author.Tests.{not-true}
use Rattle.format.specs.Bytes.{Bytes, all, texts}
use Rattle.format.specs.Characters.{chars, chars_from, well_formed, is_utf8, flat, trailing, drop_front, drop_back, keep_back, trim_by, last_of, clear_of, clear_ends}
use Rattle.format.proofs.Lists.{bcase, clash, and_left, and_right, and_intro, all_append, all_head, all_tail, all_cons, all_texts}
use Rattle.format.proofs.Characters.Chars.{flat_chars, chars_flat, utf8_flat}

-- a group with at least one byte
abbrev filled : Bytes → Bool
filled [] = false
filled (b ∷ t) = true

filled_length : (g : Bytes) → filled g ≡ true → 0 < length g
filled_length [] h = clash h refl
filled_length (b ∷ t) h = omega arith

filled_from : (k : ℕ) (s : Bytes) → all filled (chars_from k s) ≡ true
unfolding chars_from all
filled_from zero s = refl
filled_from (suc k) [] = refl
filled_from (suc k) (b ∷ t) = filled_from k (drop (trailing b t) t)

-- every character of a text has a byte
chars_filled : (s : Bytes) → all filled (chars s) ≡ true
unfolding chars
chars_filled s = filled_from (length s) s

-- a test on the bytes of a text is one on the bytes of each part
all_flat : (q : ℕ → Bool) (gs : List Bytes) → all q (flat gs) ≡ true → all (λ g. all q g) gs ≡ true
unfolding all texts
all_flat q [] h = refl
all_flat q (g ∷ gs) h =
    let e : (all q g && all q (flat gs)) ≡ true = sym (all_append q g (flat gs)) ∙ h in
    and_intro (all q g) (all (λ g. all q g) gs) (and_left (all q g) (all q (flat gs)) e) (all_flat q gs (and_right (all q g) (all q (flat gs)) e))

module _ (p : Bytes → Bool) where
  -- what holds of every character holds of those kept
  front_all : (q : Bytes → Bool) (gs : List Bytes) → all q gs ≡ true → all q (drop_front p gs) ≡ true
  unfolding drop_front
  front_all q [] h = h
  front_all q (g ∷ gs) h =
      ⊎_elim (λ e. rw e (front_all q gs (all_tail q g gs h))) (λ e. rw e h) (bcase (p g))

  keep_all : (q : Bytes → Bool) (g : Bytes) (gs : List Bytes) → q g ≡ true → all q gs ≡ true → all q (keep_back p g gs) ≡ true
  unfolding all
  keep_all q g [] h k = ⊎_elim (λ e. rw e refl) (λ e. rw e (all_cons q g [] h refl)) (bcase (p g))
  keep_all q g (x ∷ xs) h k = all_cons q g (x ∷ xs) h k

  back_all : (q : Bytes → Bool) (gs : List Bytes) → all q gs ≡ true → all q (drop_back p gs) ≡ true
  unfolding drop_back
  back_all q [] h = h
  back_all q (g ∷ gs) h = keep_all q g (drop_back p gs) (all_head q g gs h) (back_all q gs (all_tail q g gs h))

  front_shorter : (gs : List Bytes) → length (flat (drop_front p gs)) ≤ length (flat gs)
  unfolding drop_front texts
  front_shorter [] = omega arith
  front_shorter (g ∷ gs) =
      ⊎_elim (λ e. rw e (omega (arith, front_shorter gs, length-append g (flat gs)))) (λ e. rw e (omega arith)) (bcase (p g))

  keep_shorter : (g : Bytes) (gs : List Bytes) → length (flat (keep_back p g gs)) ≤ length g + length (flat gs)
  unfolding texts
  keep_shorter g [] = ⊎_elim (λ e. rw e (omega arith)) (λ e. rw e (omega (arith, length-append g []))) (bcase (p g))
  keep_shorter g (h ∷ hs) = omega (arith, length-append g (flat (h ∷ hs)))

  back_shorter : (gs : List Bytes) → length (flat (drop_back p gs)) ≤ length (flat gs)
  unfolding drop_back texts
  back_shorter [] = omega arith
  back_shorter (g ∷ gs) = omega (arith, keep_shorter g (drop_back p gs), back_shorter gs, length-append g (flat gs))

  pub back_clear_lem : (g : Bytes) (gs : List Bytes) → p (last_of g gs) ≡ false → drop_back p (g ∷ gs) ≡ g ∷ gs
  unfolding drop_back last_of
  back_clear_lem g [] h = rw h refl
  back_clear_lem g (x ∷ xs) h = rw (back_clear_lem x xs h) refl

  -- a last character that passes the test is stripped
  back-strips :
      (g : Bytes) (gs : List Bytes)
      → all filled (g ∷ gs) ≡ true
      → p (last_of g gs) ≡ true
      → length (flat (drop_back p (g ∷ gs))) < length (flat (g ∷ gs))
  unfolding drop_back last_of texts
  back-strips g [] f h = rw (h, length-append) (omega (arith, filled_length g (all_head filled g [] f)))
  back-strips g (x ∷ xs) f h =
      omega (arith, keep_shorter g (drop_back p (x ∷ xs)), back-strips x xs (all_tail filled g (x ∷ xs) f) h, length-append g (flat (x ∷ xs)))

  clear_kept : (gs : List Bytes) → clear_of p gs ≡ true → drop_back p (drop_front p gs) ≡ gs
  unfolding clear_of drop_front drop_back
  clear_kept [] h = refl
  clear_kept (g ∷ gs) h =
      rw (not-true (p g) (and_left (not (p g)) (not (p (last_of g gs))) h))
      (back_clear_lem g gs (not-true (p (last_of g gs)) (and_right (not (p g)) (not (p (last_of g gs))) h)))

  kept_clear : (gs : List Bytes) → all filled gs ≡ true → length (flat (drop_back p (drop_front p gs))) ≡ length (flat gs) → clear_of p gs ≡ true
  unfolding clear_of drop_front texts
  kept_clear [] f h = refl
  kept_clear (g ∷ gs) f h = ⊎_elim front last (bcase (p g))
    where
      front : p g ≡ true → (not (p g) && not (p (last_of g gs))) ≡ true
      front e =
          absurd (omega (arith, rw e at h, back_shorter (drop_front p gs), front_shorter gs, filled_length g (all_head filled g gs f), length-append g (flat gs)))

      last : p g ≡ false → (not (p g) && not (p (last_of g gs))) ≡ true
      last e = rw e (⊎_elim (λ l. absurd (omega (arith, rw e at h, back-strips g gs f l))) (λ l. rw l refl) (bcase (p (last_of g gs))))

  -- the last of the characters, if there is one, does not pass the test
  back_clear : List Bytes → Bool
  back_clear [] = true
  back_clear (g ∷ gs) = not (p (last_of g gs))

  keep_back_lem : (g : Bytes) (gs : List Bytes) → back_clear gs ≡ true → back_clear (keep_back p g gs) ≡ true
  unfolding back_clear last_of
  keep_back_lem g [] h = ⊎_elim (λ e. rw e refl) (λ e. rw e (rw e refl)) (bcase (p g))
  keep_back_lem g (x ∷ xs) h = h

  back_ends : (gs : List Bytes) → back_clear (drop_back p gs) ≡ true
  unfolding drop_back back_clear
  back_ends [] = refl
  back_ends (g ∷ gs) = keep_back_lem g (drop_back p gs) (back_ends gs)

  keep_ends : (g : Bytes) (gs : List Bytes) → p g ≡ false → back_clear gs ≡ true → clear_of p (keep_back p g gs) ≡ true
  unfolding clear_of back_clear last_of
  keep_ends g [] e h = rw (e, e) refl
  keep_ends g (x ∷ xs) e h = rw e h

  -- no character that passes the test is left at either end
  pub kept_ends : (gs : List Bytes) → clear_of p (drop_back p (drop_front p gs)) ≡ true
  unfolding drop_front drop_back clear_of
  kept_ends [] = refl
  kept_ends (g ∷ gs) = ⊎_elim (λ e. rw e (kept_ends gs)) (λ e. rw e (keep_ends g (drop_back p gs) e (back_ends gs))) (bcase (p g))

  kept_whole : (s : Bytes) → is_utf8 s ≡ true → all well_formed (drop_back p (drop_front p (chars s))) ≡ true
  unfolding is_utf8
  kept_whole s h = back_all well_formed (drop_front p (chars s)) (front_all well_formed (chars s) h)

  -- a text whose ends are clear stays as it is
  pub trim_clear : (s : Bytes) → clear_ends p s ≡ true → trim_by p s ≡ s
  unfolding trim_by clear_ends
  trim_clear s h = ap flat (clear_kept (chars s) h) ∙ flat_chars s

  pub trim_shorter : (s : Bytes) → length (trim_by p s) ≤ length s
  unfolding trim_by
  trim_shorter s = omega (arith, back_shorter (drop_front p (chars s)), front_shorter (chars s), ap length (flat_chars s))

  -- where nothing is stripped the ends are clear
  pub trim_full : (s : Bytes) → length (trim_by p s) ≡ length s → clear_ends p s ≡ true
  unfolding trim_by clear_ends
  trim_full s h = kept_clear (chars s) (chars_filled s) (h ∙ sym (ap length (flat_chars s)))

  pub trim_utf8 : (s : Bytes) → is_utf8 s ≡ true → is_utf8 (trim_by p s) ≡ true
  unfolding trim_by
  trim_utf8 s h = utf8_flat (drop_back p (drop_front p (chars s))) (kept_whole s h)

  -- trimming keeps what holds of every byte
  pub trim_all : (q : ℕ → Bool) (s : Bytes) → all q s ≡ true → all q (trim_by p s) ≡ true
  unfolding trim_by
  trim_all q s h =
      all_texts q (λ g. g) (drop_back p (drop_front p (chars s)))
      (back_all (λ g. all q g) (drop_front p (chars s)) (front_all (λ g. all q g) (chars s) (all_flat q (chars s) (ap (all q) (flat_chars s) ∙ h))))

  pub trim_chars : (s : Bytes) → is_utf8 s ≡ true → chars (trim_by p s) ≡ drop_back p (drop_front p (chars s))
  unfolding trim_by
  trim_chars s h = chars_flat (drop_back p (drop_front p (chars s))) (kept_whole s h)

  -- no character that passes the test is left at either end
  pub trim_ends : (s : Bytes) → is_utf8 s ≡ true → clear_ends p (trim_by p s) ≡ true
  unfolding clear_ends
  trim_ends s h = ap (clear_of p) (trim_chars s h) ∙ kept_ends (chars s)
