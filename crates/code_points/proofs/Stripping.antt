-- Trimming from either end, one character at a time: a white-space character in front is the first character, and one at the back
-- the last. White space has at most three bytes, so three prefixes and three suffixes decide. Assumes nothing.
use Prim.Native.Nat.{ℕ, suc, ◌+◌, ◌-◌, ◌≤◌, ◌<◌}
use mathlib.Core.Path.{◌≡◌, refl, sym, ap, subst, ◌∙◌}
use mathlib.Core.Bool.{Bool, true, false}
use mathlib.Core.List.{List, [], ◌∷◌, ◌++◌}
use native.Mathlib.Omega.{arith}
use lib.ListN.{length, take, drop, get_or, length-drop, take-append-drop}
use lib.Seq.{drop-cons, drop-length, drop-drop, take-take, length-take-le}
use Rattle.std.specs.Prelude.{None, MatchOption}
use Rattle.std.specs.Bool.{then_some}
use Rattle.std.specs.List.{slice_get}
use Rattle.std.proofs.lemmas.Option.{none-some, slice_get-get_or}
use Rattle.format.specs.Bytes.{Bytes}
use Rattle.format.specs.Characters.{chars, flat, well_formed, last_of, is_white, drop_front, drop_back, trim_by, trim}
use mathlib.Core.Logic.{⊎_elim}
use Rattle.format.proofs.Lists.{bcase, below, rest_is}
use Rattle.format.proofs.Characters.Chars.{flat_chars, chars_nil, chars_whole, chars_ascii, ascii_whole, whole_single}
use Rattle.format.proofs.Characters.Trim.{back_clear_lem}
use Rattle.characters.specs.Lengths.{subpart_len}
use Rattle.characters.proofs.Utf8End.{subpart_chars}
use Rattle.code_points.proofs.WhiteTests.{white_whole}
use Rattle.code_points.specs.Edges.{AFront, NoFront, ABack, NoBack}
use Rattle.code_points.proofs.LastChar.{chars_last}
use Rattle.code_points.proofs.ShortEnds.{first_fails, last_fails}

pub last_byte : (u : Bytes) → 0 < length u → drop (length u - 1) u ≡ get_or u (length u - 1) 0 ∷ []
last_byte u h =
    let e : suc (length u - 1) ≡ length u = omega arith in
    drop-cons u (length u - 1) 0 (omega arith) ∙ rw (e, drop-length u) refl

module _ (p : Bytes → Bool) where
  front_drops : (g : Bytes) (gs : List Bytes) → p g ≡ true → drop_front p (g ∷ gs) ≡ drop_front p gs
  unfolding drop_front
  front_drops g gs h = rw h refl

  front_keeps : (g : Bytes) (gs : List Bytes) → p g ≡ false → drop_front p (g ∷ gs) ≡ g ∷ gs
  unfolding drop_front
  front_keeps g gs h = rw h refl

  front_nothing : drop_front p [] ≡ []
  unfolding drop_front
  front_nothing = refl

  back_drops : (gs : List Bytes) (g : Bytes) → p g ≡ true → drop_back p (gs ++ (g ∷ [])) ≡ drop_back p gs
  unfolding drop_back
  back_drops [] g h = rw h refl
  back_drops (x ∷ gs) g h = rw (back_drops gs g h) refl

  back_nothing : drop_back p [] ≡ []
  unfolding drop_back
  back_nothing = refl

  back_stays : (gs : List Bytes) (g : Bytes) → p g ≡ false → drop_back p (gs ++ (g ∷ [])) ≡ gs ++ (g ∷ [])
  unfolding drop_back
  back_stays [] g h = rw h refl
  back_stays (x ∷ []) g h = rw h refl
  back_stays (x ∷ y ∷ gs) g h = rw (back_stays (y ∷ gs) g h) refl

-- the last of some characters
last_is : (g : Bytes) (gs : List Bytes) (hs : List Bytes) (k : Bytes) → g ∷ gs ≡ hs ++ (k ∷ []) → last_of g gs ≡ k
unfolding last_of
last_is g gs [] k e = single gs (cc) ∙ cc
  where
    single : (gs : List Bytes) → gs ≡ [] → last_of g gs ≡ g
    single [] e = refl
    single (h ∷ gs) e = absurd (cc)
last_is g [] (x ∷ hs) k e = absurd (some hs (cc))
  where
    some : (hs : List Bytes) → [] ≡ hs ++ (k ∷ []) → ⊥
    some [] e = cc
    some (x ∷ hs) e = cc
last_is g (h ∷ gs) (x ∷ hs) k e = last_is h gs hs k (cc)

-- a white-space character in front is dropped
pub front_step : (u : Bytes) (r : ℕ) → is_white (take r u) ≡ true → drop_front is_white (chars u) ≡ drop_front is_white (chars (drop r u))
front_step u r h =
    ap (λ (x : Bytes). drop_front is_white (chars x)) (sym (take-append-drop r u))
    ∙ ap (drop_front is_white) (chars_whole (take r u) (drop r u) (white_whole (take r u) h))
    ∙ front_drops is_white (take r u) (chars (drop r u)) h

-- a white-space character at the back is dropped
pub back_step : (u : Bytes) (m : ℕ) → is_white (drop m u) ≡ true → drop_back is_white (chars u) ≡ drop_back is_white (chars (take m u))
back_step u m h =
    ap (λ (x : Bytes). drop_back is_white (chars x)) (sym (take-append-drop m u))
    ∙ ap (drop_back is_white) (chars_last (take m u) (drop m u) (white_whole (drop m u) h))
    ∙ back_drops is_white (chars (take m u)) (drop m u) h

pub first_byte : (u : Bytes) → 0 < length u → take 1 u ≡ get_or u 0 0 ∷ []
first_byte [] h = absurd (omega arith)
first_byte (b ∷ t) h = refl

-- Where none of the first character's prefixes passes, or of the last one's suffixes; an ASCII byte decides alone.
module _ (p : Bytes → Bool) (whole : (g : Bytes) → p g ≡ true → well_formed g ≡ true) (short : (g : Bytes) → p g ≡ true → length g ≤ 3) (u : Bytes) where
  pub no_front : 0 < length u → ((k : ℕ) → 0 < k → k ≤ 3 → k ≤ length u → (get_or u 0 0 < 128 → k ≤ 1) → p (take k u) ≡ false) → NoFront p u
  no_front h tried = record { fails = λ g gs e. ⊎_elim (λ l. low l g gs e) (λ m. high m g gs e) (below (get_or u 0 0) 128) }
    where
      one : p (take 1 u) ≡ false
      one = tried 1 (omega arith) (omega arith) (omega arith) (λ l. omega arith)

      low : get_or u 0 0 < 128 → (g : Bytes) (gs : List Bytes) → chars u ≡ g ∷ gs → p g ≡ false
      low l g gs e =
          let f : chars u ≡ (get_or u 0 0 ∷ []) ∷ chars (drop 1 u) =
          ap chars (sym (take-append-drop 1 u) ∙ ap (λ (x : Bytes). x ++ drop 1 u) (first_byte u h)) ∙ chars_ascii (get_or u 0 0) (drop 1 u) l in
          let k : g ≡ take 1 u = cc (first_byte u h) in
          ap p k ∙ one

      high : 128 ≤ get_or u 0 0 → (g : Bytes) (gs : List Bytes) → chars u ≡ g ∷ gs → p g ≡ false
      high m g gs e =
          let f = subpart_chars u h in
          let k : g ≡ take (subpart_len u) u = cc in
          ap p k
          ∙ first_fails p whole short u h one
          (λ l. tried 2 (omega arith) (omega arith) l (λ n. absurd (omega arith)))
          (λ l. tried 3 (omega arith) (omega arith) l (λ n. absurd (omega arith)))

  pub no_back : 0 < length u → ((k : ℕ) → 0 < k → k ≤ 3 → k ≤ length u → (get_or u (length u - 1) 0 < 128 → k ≤ 1) → p (drop (length u - k) u) ≡ false) → NoBack p u
  no_back h tried = record { fails = λ g gs e. ⊎_elim (λ l. low l g gs e) (λ m. high m g gs e) (below (get_or u (length u - 1) 0) 128) }
    where
      one : p (drop (length u - 1) u) ≡ false
      one = tried 1 (omega arith) (omega arith) (omega arith) (λ l. omega arith)

      low : get_or u (length u - 1) 0 < 128 → (g : Bytes) (gs : List Bytes) → chars u ≡ g ∷ gs → p (last_of g gs) ≡ false
      low l g gs e =
          let m = length u - 1 in
          let b = get_or u m 0 in
          let f : chars u ≡ chars (take m u) ++ ((b ∷ []) ∷ []) =
          ap chars (sym (take-append-drop m u) ∙ ap (λ (x : Bytes). take m u ++ x) (last_byte u h)) ∙ chars_last (take m u) (b ∷ []) (ascii_whole b l) in
          ap p (last_is g gs (chars (take m u)) (b ∷ []) (sym e ∙ f) ∙ sym (last_byte u h)) ∙ one

      high : 128 ≤ get_or u (length u - 1) 0 → (g : Bytes) (gs : List Bytes) → chars u ≡ g ∷ gs → p (last_of g gs) ≡ false
      high m g gs e =
          last_fails p whole short u one
          (λ l. tried 2 (omega arith) (omega arith) l (λ n. absurd (omega arith)))
          (λ l. tried 3 (omega arith) (omega arith) l (λ n. absurd (omega arith)))
          g gs e

  -- one byte of 128 or more never passes, and where an ASCII byte stands there no more are tried
  single_fails : (b : ℕ) → 128 ≤ b → p (b ∷ []) ≡ false
  single_fails b h = ⊎_elim (λ w. absurd (omega (arith, whole_single b (whole (b ∷ []) w)))) (λ f. f) (bcase (p (b ∷ [])))

  pub front_low : 0 < length u → get_or u 0 0 < 128 → p (take 1 u) ≡ false → NoFront p u
  front_low h l f = no_front h (λ k a b d m. let e : k ≡ 1 = omega (arith, m l) in ap (λ k. p (take k u)) e ∙ f)

  pub front_high : 0 < length u → 128 ≤ get_or u 0 0 → (2 ≤ length u → p (take 2 u) ≡ false) → (3 ≤ length u → p (take 3 u) ≡ false) → NoFront p u
  front_high h l b c = record { fails = λ g gs e. cut g gs e }
    where
      cut : (g : Bytes) (gs : List Bytes) → chars u ≡ g ∷ gs → p g ≡ false
      cut g gs e =
          let f = subpart_chars u h in
          let k : g ≡ take (subpart_len u) u = cc in
          ap p k ∙ first_fails p whole short u h (ap p (first_byte u h) ∙ single_fails (get_or u 0 0) l) b c

  pub back_low : 0 < length u → get_or u (length u - 1) 0 < 128 → p (drop (length u - 1) u) ≡ false → NoBack p u
  back_low h l f = no_back h (λ k a b d m. let e : k ≡ 1 = omega (arith, m l) in ap (λ k. p (drop (length u - k) u)) e ∙ f)

  pub back_high : 0 < length u → 128 ≤ get_or u (length u - 1) 0 → (2 ≤ length u → p (drop (length u - 2) u) ≡ false) → (3 ≤ length u → p (drop (length u - 3) u) ≡ false) → NoBack p u
  back_high h l b c = record { fails = λ g gs e. last_fails p whole short u (ap p (last_byte u h) ∙ single_fails (get_or u (length u - 1) 0) l) b c g gs e }

-- an answer of n bytes where a test passes
pub then_some_of : {N : Type 0} (A : ℕ → Type 0) (n : ℕ) (b : Bool) → (b ≡ false → N) → (b ≡ true → A n) → MatchOption (then_some b n) N A
then_some_of A n true f t = t refl
then_some_of A n false f t = f refl

-- A text without a byte at its end has no characters.
pub no_chars : (u : Bytes) (k : ℕ) → k ≤ length u - 1 → slice_get u k ≡ None → chars u ≡ []
no_chars [] k l e = chars_nil
no_chars (b ∷ t) k l e = absurd (none-some (get_or (b ∷ t) k 0) (sym e ∙ slice_get-get_or (b ∷ t) k 0 (omega arith)))

pub no_front_empty : (p : Bytes → Bool) (u : Bytes) → slice_get u 0 ≡ None → NoFront p u
no_front_empty p u e = let f = no_chars u 0 (omega arith) e in record { fails = λ g gs h. absurd (cc) }

pub no_back_empty : (p : Bytes → Bool) (u : Bytes) → slice_get u (length u - 1) ≡ None → NoBack p u
no_back_empty p u e = let f = no_chars u (length u - 1) (omega arith) e in record { fails = λ g gs h. absurd (cc) }

-- Trimming stops where no white space stands in front, or at the back.
pub front_stop : (u : Bytes) → NoFront is_white u → drop_front is_white (chars u) ≡ chars u
front_stop u n = go (chars u) refl
  where
    go : (gs : List Bytes) → chars u ≡ gs → drop_front is_white gs ≡ gs
    go [] e = front_nothing is_white
    go (g ∷ gs) e = front_keeps is_white g gs (n.fails g gs e)

pub back_stop : (u : Bytes) → NoBack is_white u → flat (drop_back is_white (chars u)) ≡ u
back_stop u n = go (chars u) refl
  where
    go : (gs : List Bytes) → chars u ≡ gs → flat (drop_back is_white (chars u)) ≡ u
    go [] e = rw (e, back_nothing is_white) (ap flat (sym e) ∙ flat_chars u)
    go (g ∷ gs) e = rw e (ap flat (back_clear_lem is_white g gs (n.fails g gs e)) ∙ ap flat (sym e) ∙ flat_chars u)

-- and passes over one that does.
module _ (s : Bytes) (at n : ℕ) (h : at ≤ length s) (w : AFront is_white (take (length s - at) (drop at s)) n) where
  front_at : AFront is_white (drop at s) n
  front_at = subst (λ (x : Bytes). AFront is_white x n) (rest_is s at) w

  pub front_inside : at + n ≤ length s
  front_inside = omega (arith, front_at.inside, length-drop at s)

  pub front_on : drop_front is_white (chars (drop at s)) ≡ drop_front is_white (chars (drop (at + n) s))
  front_on = front_step (drop at s) n front_at.passes ∙ rw (drop-drop n at s) refl

module _ (s : Bytes) (end n : ℕ) (h : end ≤ length s) (w : ABack is_white (take end s) n) where
  pub back_inside : n ≤ end
  back_inside = omega (arith, w.inside, length-take-le end s h)

  pub back_on : drop_back is_white (chars (take end s)) ≡ drop_back is_white (chars (take (end - n) s))
  back_on =
      back_step (take end s) (length (take end s) - n) w.passes
      ∙ rw (length-take-le end s h, take-take (end - n) end s (omega arith)) refl

-- both ends together
pub trimmed :
    (s : Bytes) (from n : ℕ)
    → drop_front is_white (chars s) ≡ chars (drop from s)
    → flat (drop_back is_white (chars (take (length s - from) (drop from s)))) ≡ take n (take (length s - from) (drop from s))
    → take (from + n - from) (drop from s) ≡ trim s
unfolding trim_by
trimmed s from n f b =
    let e : from + n - from ≡ n = omega arith in
    rw e
    (sym (ap (λ (x : Bytes). take n x) (rest_is s from))
    ∙ sym b
    ∙ ap (λ (x : Bytes). flat (drop_back is_white (chars x))) (rest_is s from)
    ∙ ap (λ (gs : List Bytes). flat (drop_back is_white gs)) (sym f))
