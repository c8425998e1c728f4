-- Document 01, "Characters": any bytes are the join of their characters and subparts, a well-formed character is cut off whole,
-- and a text is cut at every ASCII byte. The facts of Table 3-7 that carry this are in Table.antt. Assumes nothing.
use Prim.Native.Nat.{ℕ, zero, suc, ◌≤◌, ◌<◌}
use mathlib.Core.Path.{◌≡◌, refl, sym, ap, ◌∙◌}
use mathlib.Core.Bool.{true, ◌&&◌, false≢true}
use mathlib.Core.List.{List, [], ◌∷◌, ◌++◌, append_assoc, append-nil}
use mathlib.Core.Option.{Option, none, some}
use native.Mathlib.Omega.{arith}
use lib.Dec.{leb, ltb}
use lib.ListN.{length, take, drop, take-append-drop, length-drop}
use lib.Seq.{take-append_seam, drop-append_seam, take-append-le, drop-append-le}
use borrow.Author.Tests.{le-leb, ltb-true}
use Rattle.format.specs.Bytes.{Bytes, all, texts}
use Rattle.format.specs.Characters.{Range, trail_of, fits, fits_some, well_formed, matched_some, trailing, chars_from, chars, is_utf8, flat}
use Rattle.format.proofs.Lists.{and_left, and_right, and_intro, all_append, all_head, all_tail, all_cons}
use Rattle.format.proofs.Characters.Table.{trail_upper, lead_upper, lead_single, trail_ascii, fits_upper, matched_le, matched_fits, matched_cut}

-- A well-formed character b ∷ t, taken apart: the trailing ranges of b, which t fits.
pub record Whole (b : ℕ) (t : Bytes) : Type 0 where
  pub ranges : List Range
  pub trails : trail_of b ≡ some ranges
  pub fitting : fits ranges t ≡ true

pub whole : (b : ℕ) (t : Bytes) → well_formed (b ∷ t) ≡ true → Whole b t
unfolding well_formed
whole b t h = go (trail_of b) refl h
  where
    go : (o : Option (List Range)) → trail_of b ≡ o → fits_some o t ≡ true → Whole b t
    go none e f = absurd (false≢true f)
    go (some rs) e f = record { ranges = rs; trails = e; fitting = f }

pub trailing_le : (b : ℕ) (t : Bytes) → trailing b t ≤ length t
trailing_le b t = go (trail_of b)
  where
    go : (o : Option (List Range)) → matched_some o t ≤ length t
    go none = omega arith
    go (some rs) = matched_le rs t

-- the number that bounds the recursion does not matter where it reaches the length
chars_from_any : (k j : ℕ) (s : Bytes) → length s ≤ k → length s ≤ j → chars_from k s ≡ chars_from j s
unfolding chars_from
chars_from_any zero zero s h i = refl
chars_from_any zero (suc j) [] h i = refl
chars_from_any zero (suc j) (b ∷ t) h i = absurd (omega arith)
chars_from_any (suc k) zero [] h i = refl
chars_from_any (suc k) zero (b ∷ t) h i = absurd (omega arith)
chars_from_any (suc k) (suc j) [] h i = refl
chars_from_any (suc k) (suc j) (b ∷ t) h i =
    ap {B = List Bytes} (λ r. (b ∷ take (trailing b t) t) ∷ r)
    (chars_from_any k j (drop (trailing b t) t) (omega (arith, length-drop (trailing b t) t)) (omega (arith, length-drop (trailing b t) t)))

pub chars_nil : chars [] ≡ []
unfolding chars chars_from
chars_nil = refl

pub chars_cons : (b : ℕ) (t : Bytes) → chars (b ∷ t) ≡ (b ∷ take (trailing b t) t) ∷ chars (drop (trailing b t) t)
unfolding chars chars_from
chars_cons b t =
    ap {B = List Bytes} (λ r. (b ∷ take (trailing b t) t) ∷ r)
    (chars_from_any (length t) (length (drop (trailing b t) t)) (drop (trailing b t) t) (omega (arith, length-drop (trailing b t) t)) (omega arith))

flat_from : (k : ℕ) (s : Bytes) → length s ≤ k → flat (chars_from k s) ≡ s
unfolding chars_from texts
flat_from zero [] h = refl
flat_from zero (b ∷ t) h = absurd (omega arith)
flat_from (suc k) [] h = refl
flat_from (suc k) (b ∷ t) h =
    rw (flat_from k (drop (trailing b t) t) (omega (arith, length-drop (trailing b t) t)), take-append-drop (trailing b t) t) refl

-- any bytes are the join of their characters and subparts
pub flat_chars : (s : Bytes) → flat (chars s) ≡ s
unfolding chars
flat_chars s = flat_from (length s) s (omega arith)

-- a well-formed character in front is cut off whole
pub chars_whole : (g s : Bytes) → well_formed g ≡ true → chars (g ++ s) ≡ g ∷ chars s
unfolding well_formed
chars_whole [] s h = absurd (false≢true h)
chars_whole (b ∷ t) s h =
    let w = whole b t h in
    let n : trailing b (t ++ s) ≡ length t = rw w.trails (matched_fits w.ranges t s w.fitting) in
    chars_cons b (t ++ s) ∙ rw (n, take-append_seam t s, drop-append_seam t s) refl

-- characters in front are cut off as they are
chars_flat_append : (gs : List Bytes) (s : Bytes) → all well_formed gs ≡ true → chars (flat gs ++ s) ≡ gs ++ chars s
unfolding texts
chars_flat_append [] s h = refl
chars_flat_append (g ∷ gs) s h =
    rw (append_assoc g (flat gs) s, chars_whole g (flat gs ++ s) (all_head well_formed g gs h), chars_flat_append gs s (all_tail well_formed g gs h)) refl

pub chars_flat : (gs : List Bytes) → all well_formed gs ≡ true → chars (flat gs) ≡ gs
chars_flat gs h = ap chars (sym (append-nil (flat gs))) ∙ chars_flat_append gs [] h ∙ rw (chars_nil, append-nil gs) refl

pub utf8_flat : (gs : List Bytes) → all well_formed gs ≡ true → is_utf8 (flat gs) ≡ true
unfolding is_utf8
utf8_flat gs h = rw (chars_flat gs h) h

pub utf8_nil : is_utf8 [] ≡ true
unfolding is_utf8 all
utf8_nil = rw chars_nil refl

-- a well-formed character is a UTF-8 text
pub utf8_whole : (g : Bytes) → well_formed g ≡ true → is_utf8 g ≡ true
unfolding texts all
utf8_whole g h = rw (append-nil g) at (utf8_flat (g ∷ []) (all_cons well_formed g [] h refl))

-- the characters of a UTF-8 text are not changed by what follows
pub chars_append : (s t : Bytes) → is_utf8 s ≡ true → chars (s ++ t) ≡ chars s ++ chars t
unfolding is_utf8
chars_append s t h = ap (λ (x : Bytes). chars (x ++ t)) (sym (flat_chars s)) ∙ chars_flat_append (chars s) t h

pub utf8_append : (s t : Bytes) → is_utf8 s ≡ true → is_utf8 (s ++ t) ≡ is_utf8 t
unfolding is_utf8
utf8_append s t h = rw (chars_append s t h, all_append well_formed (chars s) (chars t), h) refl

-- texts that are each UTF-8 are UTF-8 one behind another
pub utf8_texts : {A : Type 0} (f : A → Bytes) (xs : List A) → all (λ x. is_utf8 (f x)) xs ≡ true → is_utf8 (texts f xs) ≡ true
unfolding texts is_utf8 all
utf8_texts f [] h = rw chars_nil refl
utf8_texts f (x ∷ xs) h =
    utf8_append (f x) (texts f xs) (all_head (λ x. is_utf8 (f x)) x xs h) ∙ utf8_texts f xs (all_tail (λ x. is_utf8 (f x)) x xs h)

pub ascii_whole : (b : ℕ) → b < 128 → well_formed (b ∷ []) ≡ true
unfolding well_formed fits
ascii_whole b h = rw (trail_ascii b h) refl

pub chars_ascii : (b : ℕ) (t : Bytes) → b < 128 → chars (b ∷ t) ≡ (b ∷ []) ∷ chars t
chars_ascii b t h = chars_whole (b ∷ []) t (ascii_whole b h)

pub utf8_ascii : (b : ℕ) (t : Bytes) → b < 128 → is_utf8 (b ∷ t) ≡ is_utf8 t
unfolding is_utf8 all
utf8_ascii b t h = rw (chars_ascii b t h, ascii_whole b h) refl

pub utf8_ascii_text : (s : Bytes) → all (λ b. ltb b 128) s ≡ true → is_utf8 s ≡ true
unfolding is_utf8 all
utf8_ascii_text [] h = rw chars_nil refl
utf8_ascii_text (b ∷ s) h =
    utf8_ascii b s (ltb-true b 128 (all_head (λ b. ltb b 128) b s h)) ∙ utf8_ascii_text s (all_tail (λ b. ltb b 128) b s h)

pub whole_single : (b : ℕ) → well_formed (b ∷ []) ≡ true → b < 128
unfolding fits
whole_single b h = let w = whole b [] h in go w.ranges w.trails w.fitting
  where
    go : (rs : List Range) → trail_of b ≡ some rs → fits rs [] ≡ true → b < 128
    go [] e f = lead_single b e
    go (r ∷ rs) e f = absurd (false≢true f)

-- in a character of two bytes or more every byte is 128 or more
pub whole_high : (a b : ℕ) (t : Bytes) → well_formed (a ∷ b ∷ t) ≡ true → all (leb 128) (a ∷ b ∷ t) ≡ true
unfolding fits all
whole_high a b t h = let w = whole a (b ∷ t) h in go w.ranges w.trails w.fitting
  where
    go : (rs : List Range) → trail_of a ≡ some rs → fits rs (b ∷ t) ≡ true → all (leb 128) (a ∷ b ∷ t) ≡ true
    go [] e f = absurd (false≢true f)
    go (r ∷ rs) e f = and_intro (leb 128 a) (all (leb 128) (b ∷ t)) (le-leb 128 a (lead_upper a r rs e)) (fits_upper (r ∷ rs) (b ∷ t) (trail_upper a (r ∷ rs) e) f)

-- a byte below 128 ends whatever stands before it
trailing_cut : (a : ℕ) (s : Bytes) (b : ℕ) (t : Bytes) → b < 128 → trailing a (s ++ (b ∷ t)) ≡ trailing a s
trailing_cut a s b t h = go (trail_of a) refl
  where
    go : (o : Option (List Range)) → trail_of a ≡ o → matched_some o (s ++ (b ∷ t)) ≡ matched_some o s
    go none e = refl
    go (some rs) e = matched_cut rs s b t (trail_upper a rs e) h

-- any bytes are cut before and behind a byte below 128
pub chars_cut : (s : Bytes) (b : ℕ) (t : Bytes) → b < 128 → chars (s ++ (b ∷ t)) ≡ chars s ++ ((b ∷ []) ∷ chars t)
chars_cut s b t h = cut (length s) s b t (omega arith) h
  where
    cut : (k : ℕ) (s : Bytes) (b : ℕ) (t : Bytes) → length s ≤ k → b < 128 → chars (s ++ (b ∷ t)) ≡ chars s ++ ((b ∷ []) ∷ chars t)
    cut zero [] b t i h = rw chars_nil (chars_ascii b t h)
    cut (suc k) [] b t i h = rw chars_nil (chars_ascii b t h)
    cut zero (a ∷ s) b t i h = absurd (omega arith)
    cut (suc k) (a ∷ s) b t i h =
        let le = trailing_le a s in
        chars_cons a (s ++ (b ∷ t))
        ∙ rw
        (trailing_cut a s b t h, take-append-le (trailing a s) s (b ∷ t) le, drop-append-le (trailing a s) s (b ∷ t) le, chars_cons a s)
        (ap {B = List Bytes} (λ r. (a ∷ take (trailing a s) s) ∷ r) (cut k (drop (trailing a s) s) b t (omega (arith, length-drop (trailing a s) s)) h))

-- a UTF-8 text cut at an ASCII byte gives two UTF-8 texts
pub utf8_cut : (s : Bytes) (b : ℕ) (t : Bytes) → b < 128 → is_utf8 (s ++ (b ∷ t)) ≡ true → (is_utf8 s ≡ true) × (is_utf8 t ≡ true)
unfolding is_utf8
utf8_cut s b t h u =
    let e : (all well_formed (chars s) && all well_formed ((b ∷ []) ∷ chars t)) ≡ true =
    sym (ap (all well_formed) (chars_cut s b t h) ∙ all_append well_formed (chars s) ((b ∷ []) ∷ chars t)) ∙ u in (
      and_left (all well_formed (chars s)) (all well_formed ((b ∷ []) ∷ chars t)) e,
      all_tail well_formed (b ∷ []) (chars t) (and_right (all well_formed (chars s)) (all well_formed ((b ∷ []) ∷ chars t)) e),
    )
