-- Laws of `char_len`, `subpart_len` and `utf8_end`: what stands at the front of a text is its first character or subpart, going over
-- UTF-8 leaves where UTF-8 ends, and a text is UTF-8 exactly when that is its own end. Assumes nothing.
use Prim.Native.Nat.{ℕ, ◌+◌, ◌-◌, ◌≤◌, ◌<◌}
use mathlib.Core.Path.{◌≡◌, refl, sym, ap, ◌∙◌}
use mathlib.Core.Bool.{true, false}
use mathlib.Core.Logic.{⊎_elim}
use mathlib.Core.List.{List, [], ◌∷◌, ◌++◌}
use native.Mathlib.Omega.{arith}
use lib.Dec.{eqb}
use lib.ListN.{length, take, drop, length-take, length-drop, take-append-drop, drop_of_length-le, length-append}
use lib.Seq.{drop-drop, take-append-add, take_all}
use borrow.Author.Tests.{eqb-true, eqb-false}
use Rattle.format.specs.Bytes.{Bytes, all, texts}
use Rattle.format.specs.Characters.{well_formed, chars, is_utf8, flat}
use Rattle.format.proofs.Lists.{bcase, all_head, all_tail}
use Rattle.format.proofs.Characters.Chars.{trailing_le, flat_chars, utf8_nil, chars_nil, chars_cons, chars_append, utf8_whole, utf8_append}
use Rattle.characters.specs.Lengths.{subpart_len, char_len, whole_len, utf8_end, Passed}

-- a text that is not empty begins with its first character or subpart
pub subpart_chars : (s : Bytes) → 0 < length s → chars s ≡ take (subpart_len s) s ∷ chars (drop (subpart_len s) s)
unfolding subpart_len
subpart_chars [] h = absurd (omega arith)
subpart_chars (b ∷ t) h = chars_cons b t

pub subpart_some : (s : Bytes) → 0 < length s → 0 < subpart_len s
unfolding subpart_len
subpart_some [] h = absurd (omega arith)
subpart_some (b ∷ t) h = omega arith

pub subpart_inside : (s : Bytes) → subpart_len s ≤ length s
unfolding subpart_len
subpart_inside [] = omega arith
subpart_inside (b ∷ t) = omega (arith, trailing_le b t)

-- a character that a text begins with is well-formed
pub char_whole : (s : Bytes) → 0 < char_len s → (well_formed (take (char_len s) s) ≡ true) × (char_len s ≡ subpart_len s)
unfolding char_len
char_whole s h =
    ⊎_elim
    (λ w. (rw w w, rw w refl))
    (λ w. absurd (omega (arith, rw w at h)))
    (bcase (well_formed (take (subpart_len s) s)))

pub char_ill : (s : Bytes) → 0 < length s → char_len s ≡ 0 → well_formed (take (subpart_len s) s) ≡ false
unfolding char_len
char_ill s h e =
    ⊎_elim (λ w. absurd (omega (arith, rw w at e, subpart_some s h))) (λ w. w) (bcase (well_formed (take (subpart_len s) s)))

whole_append : (gs hs : List Bytes) → all well_formed gs ≡ true → whole_len (gs ++ hs) ≡ length (flat gs) + whole_len hs
unfolding whole_len texts
whole_append [] hs h = omega arith
whole_append (g ∷ gs) hs h =
    rw (all_head well_formed g gs h) (omega (arith, whole_append gs hs (all_tail well_formed g gs h), length-append g (flat gs)))

-- a text from a place on, cut at a later one
pub cut_at : (s : Bytes) (i n : ℕ) → drop i s ≡ take n (drop i s) ++ drop (i + n) s
cut_at s i n = sym (take-append-drop n (drop i s)) ∙ rw (drop-drop n i s) refl

module _ (s : Bytes) (i n : ℕ) (h : i + n ≤ length s) where
  -- going over UTF-8 leaves where UTF-8 ends
  pub end_past : is_utf8 (take n (drop i s)) ≡ true → utf8_end s i ≡ utf8_end s (i + n)
  unfolding utf8_end is_utf8
  end_past u =
      let part = take n (drop i s) in
      let len : length part ≡ n = length-take n (drop i s) ∙ omega (arith, length-drop i s) in
      let e : whole_len (chars (drop i s)) ≡ length (flat (chars part)) + whole_len (chars (drop (i + n) s)) =
      ap (λ (x : Bytes). whole_len (chars x)) (cut_at s i n) ∙ ap whole_len (chars_append part (drop (i + n) s) u) ∙ whole_append (chars part) (chars (drop (i + n) s)) u in
      omega (arith, ap length (flat_chars part))

  pub passed : is_utf8 (take n (drop i s)) ≡ true → Passed s i (i + n)
  passed u = record { onward = omega arith; inside = h; keeps = end_past u }

-- a character is passed over
char_passed : (s : Bytes) (i : ℕ) → 0 < char_len (drop i s) → Passed s i (i + char_len (drop i s))
char_passed s i h =
    let w = char_whole (drop i s) h in
    passed s i (char_len (drop i s)) (omega (arith, w.1, subpart_inside (drop i s), length-drop i s)) (utf8_whole (take (char_len (drop i s)) (drop i s)) w.0)

pub stays : (s : Bytes) (i : ℕ) → i ≤ length s → Passed s i i
stays s i h = record { onward = omega arith; inside = h; keeps = refl }

pub passed_on : {s : Bytes} {i j k : ℕ} → Passed s i j → Passed s j k → Passed s i k
passed_on p q = record { onward = omega arith; inside = q.inside; keeps = p.keeps ∙ q.keeps }

pub char_step : (s : Bytes) (i n : ℕ) → n ≡ char_len (drop i s) → (n ≡ 0 → ⊥) → Passed s i (i + n)
char_step s i n e h = rw e (char_passed s i (omega arith))

-- where no character stands UTF-8 ends
pub end_ill : (s : Bytes) (i : ℕ) → i < length s → char_len (drop i s) ≡ 0 → utf8_end s i ≡ i
unfolding utf8_end whole_len
end_ill s i h e =
    let l : 0 < length (drop i s) = omega (arith, length-drop i s) in
    rw (subpart_chars (drop i s) l, char_ill (drop i s) l e) (omega arith)

pub end_end : (s : Bytes) (i : ℕ) → length s ≤ i → utf8_end s i ≡ i
unfolding utf8_end whole_len
end_end s i h = rw (drop_of_length-le s h, chars_nil) (omega arith)

pub whole_cons : (g : Bytes) (gs : List Bytes) → well_formed g ≡ true → whole_len (g ∷ gs) ≡ length g + whole_len gs
unfolding whole_len
whole_cons g gs w = rw w refl

whole_ill : (g : Bytes) (gs : List Bytes) → well_formed g ≡ false → whole_len (g ∷ gs) ≡ 0
unfolding whole_len
whole_ill g gs w = rw w refl

whole_nil : whole_len [] ≡ 0
unfolding whole_len
whole_nil = refl

front_utf8 : (gs : List Bytes) → is_utf8 (take (whole_len gs) (flat gs)) ≡ true
unfolding texts
front_utf8 [] = ap (λ (n : ℕ). is_utf8 (take n [])) whole_nil ∙ utf8_nil
front_utf8 (g ∷ gs) =
    ⊎_elim
    (λ w.
    ap (λ (n : ℕ). is_utf8 (take n (g ++ flat gs))) (whole_cons g gs w)
    ∙ ap is_utf8 (take-append-add g (flat gs) (whole_len gs))
    ∙ utf8_append g (take (whole_len gs) (flat gs)) (utf8_whole g w)
    ∙ front_utf8 gs)
    (λ w. ap (λ (n : ℕ). is_utf8 (take n (g ++ flat gs))) (whole_ill g gs w) ∙ utf8_nil)
    (bcase (well_formed g))

front_short : (gs : List Bytes) → whole_len gs ≤ length (flat gs)
unfolding whole_len texts
front_short [] = omega arith
front_short (g ∷ gs) =
    ⊎_elim (λ w. rw w (omega (arith, front_short gs, length-append g (flat gs)))) (λ w. rw w (omega arith)) (bcase (well_formed g))

-- all before the place where UTF-8 ends is UTF-8
pub end_utf8 : (s : Bytes) (i : ℕ) → is_utf8 (take (utf8_end s i - i) (drop i s)) ≡ true
unfolding utf8_end
end_utf8 s i =
    let e : i + whole_len (chars (drop i s)) - i ≡ whole_len (chars (drop i s)) = omega arith in
    rw e (ap (λ (x : Bytes). is_utf8 (take (whole_len (chars (drop i s))) x)) (sym (flat_chars (drop i s))) ∙ front_utf8 (chars (drop i s)))

pub end_inside : (s : Bytes) (i : ℕ) → i ≤ length s → (i ≤ utf8_end s i) × (utf8_end s i ≤ length s)
unfolding utf8_end
end_inside s i h = (omega arith, omega (arith, front_short (chars (drop i s)), ap length (flat_chars (drop i s)), length-drop i s))

-- a text is UTF-8 exactly when UTF-8 ends at its end
utf8_full : (s : Bytes) → utf8_end s 0 ≡ length s → is_utf8 s ≡ true
utf8_full s e = sym (ap is_utf8 (take_all (utf8_end s 0 - 0) s (omega arith))) ∙ end_utf8 s 0

utf8_short : (s : Bytes) → (utf8_end s 0 ≡ length s → ⊥) → is_utf8 s ≡ false
utf8_short s h =
    ⊎_elim
    (λ u. absurd (h (end_past s 0 (length s) (omega arith) (rw (take_all (length s) s (omega arith)) u) ∙ end_end s (0 + length s) (omega arith) ∙ omega arith)))
    (λ f. f)
    (bcase (is_utf8 s))

pub utf8_tested : (s : Bytes) (r : ℕ) → r ≡ utf8_end s 0 → eqb r (length s) ≡ is_utf8 s
utf8_tested s r e =
    ⊎_elim
    (λ t. t ∙ sym (utf8_full s (sym e ∙ eqb-true r (length s) t)))
    (λ f. f ∙ sym (utf8_short s (λ g. eqb-false r (length s) f (e ∙ g))))
    (bcase (eqb r (length s)))
