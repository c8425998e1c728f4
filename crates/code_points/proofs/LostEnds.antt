-- White space that is no control character at the ends of a text. It has at most three bytes, so prefixes and suffixes of up to three
-- decide whether a text begins or ends with it. The last laws are for those who cut it off. Assumes nothing.
use Prim.Native.Nat.{ℕ, ◌+◌, ◌-◌, ◌≤◌, ◌<◌}
use mathlib.Core.Path.{◌≡◌, refl, sym, ap, subst, ◌∙◌}
use mathlib.Core.Bool.{true, false}
use mathlib.Core.Logic.{⊎_elim}
use mathlib.Core.List.{List, [], ◌∷◌, ◌++◌}
use native.Mathlib.Omega.{arith}
use lib.ListN.{length, take, drop, get_or, length-append, length-drop, take-append-drop}
use lib.Seq.{length-take-le, take-append_seam, drop-append_seam}
use borrow.Author.Tests.{ne_eqb}
use Rattle.std.specs.Prelude.{Option, Some, None, MatchOption, unwrap_or}
use Rattle.format.specs.Bytes.{Bytes, texts}
use Rattle.format.specs.Characters.{chars, flat, last_of, is_lost}
use Rattle.format.proofs.Lists.{bcase}
use Rattle.format.proofs.Escaping.EndForm.{lost_is_white, lost_whole}
use Rattle.format.proofs.Characters.Chars.{flat_chars, chars_nil, chars_whole, chars_ascii, ascii_whole}
use Rattle.code_points.specs.Edges.{AFront, NoFront, ABack, NoBack}
use Rattle.code_points.specs.Ends.{lost_size, lost_front, lost_back}
use Rattle.code_points.proofs.WhiteTests.{white_short, lost_low}
use Rattle.code_points.proofs.LastChar.{chars_last}
use Rattle.code_points.proofs.ShortEnds.{Ending, ending, whole_some}
use Rattle.code_points.proofs.Stripping.{first_byte, last_byte}

pub lost_short : (g : Bytes) → is_lost g ≡ true → length g ≤ 3
lost_short g h = white_short g (lost_is_white g h)

size_lost : (g : Bytes) → is_lost g ≡ true → lost_size g ≡ length g
unfolding lost_size
size_lost g h = rw h refl

size_kept : (g : Bytes) → is_lost g ≡ false → lost_size g ≡ 0
unfolding lost_size
size_kept g h = rw h refl

size_most : (g : Bytes) → lost_size g ≤ length g
size_most g = ⊎_elim (λ l. omega (arith, size_lost g l)) (λ k. omega (arith, size_kept g k)) (bcase (is_lost g))

size_ascii : (b : ℕ) → b < 128 → (b ≡ 0x20 → ⊥) → lost_size (b ∷ []) ≡ 0
size_ascii b h n = size_kept (b ∷ []) (lost_low b h ∙ ne_eqb b 0x20 n)

front_first : (g : Bytes) (gs : List Bytes) → lost_front (g ∷ gs) ≡ lost_size g
unfolding lost_front
front_first g gs = refl

back_last : (gs : List Bytes) (g : Bytes) → lost_back (gs ++ (g ∷ [])) ≡ lost_size g
unfolding lost_back last_of
back_last [] g = refl
back_last (x ∷ []) g = refl
back_last (x ∷ y ∷ gs) g = back_last (y ∷ gs) g

module _ (u : Bytes) where
  -- an empty text has none
  pub front_empty : length u ≡ 0 → 0 ≡ lost_front (chars u)
  unfolding lost_front
  front_empty h = go u h
    where
      go : (u : Bytes) → length u ≡ 0 → 0 ≡ lost_front (chars u)
      go [] h = rw chars_nil refl
      go (b ∷ t) h = absurd (omega arith)

  pub back_empty : length u ≡ 0 → 0 ≡ lost_back (chars u)
  unfolding lost_back
  back_empty h = go u h
    where
      go : (u : Bytes) → length u ≡ 0 → 0 ≡ lost_back (chars u)
      go [] h = rw chars_nil refl
      go (b ∷ t) h = absurd (omega arith)

  -- the first r bytes are such a character
  pub front_is : (r : ℕ) → r ≤ length u → is_lost (take r u) ≡ true → r ≡ lost_front (chars u)
  front_is r l h =
      sym
      (ap lost_front (ap chars (sym (take-append-drop r u)) ∙ chars_whole (take r u) (drop r u) (lost_whole (take r u) h))
      ∙ front_first (take r u) (chars (drop r u))
      ∙ size_lost (take r u) h
      ∙ length-take-le r u l)

  -- the last r bytes are
  pub back_is : (r : ℕ) → r ≤ length u → is_lost (drop (length u - r) u) ≡ true → r ≡ lost_back (chars u)
  back_is r l h =
      let m = length u - r in
      let e : length (drop m u) ≡ r = length-drop m u ∙ omega arith in
      sym
      (ap lost_back (ap chars (sym (take-append-drop m u)) ∙ chars_last (take m u) (drop m u) (lost_whole (drop m u) h))
      ∙ back_last (chars (take m u)) (drop m u)
      ∙ size_lost (drop m u) h
      ∙ e)

module _ (u : Bytes) (h : 0 < length u) where
  front_chars : get_or u 0 0 < 128 → lost_front (chars u) ≡ lost_size (get_or u 0 0 ∷ [])
  front_chars l =
      ap lost_front (ap chars (sym (take-append-drop 1 u) ∙ ap (λ (x : Bytes). x ++ drop 1 u) (first_byte u h)) ∙ chars_ascii (get_or u 0 0) (drop 1 u) l)
      ∙ front_first (get_or u 0 0 ∷ []) (chars (drop 1 u))

  back_chars : get_or u (length u - 1) 0 < 128 → lost_back (chars u) ≡ lost_size (get_or u (length u - 1) 0 ∷ [])
  back_chars l =
      let m = length u - 1 in
      let b = get_or u m 0 in
      ap lost_back (ap chars (sym (take-append-drop m u) ∙ ap (λ (x : Bytes). take m u ++ x) (last_byte u h)) ∙ chars_last (take m u) (b ∷ []) (ascii_whole b l))
      ∙ back_last (chars (take m u)) (b ∷ [])

  -- an ASCII byte that is no space decides alone
  pub front_ascii : get_or u 0 0 < 128 → (get_or u 0 0 ≡ 0x20 → ⊥) → 0 ≡ lost_front (chars u)
  front_ascii l e = sym (front_chars l ∙ size_ascii (get_or u 0 0) l e)

  pub back_ascii : get_or u (length u - 1) 0 < 128 → (get_or u (length u - 1) 0 ≡ 0x20 → ⊥) → 0 ≡ lost_back (chars u)
  back_ascii l e = sym (back_chars l ∙ size_ascii (get_or u (length u - 1) 0) l e)

-- what is found at an end, as a number
pub front_found : (u : Bytes) (o : Option ℕ) → MatchOption o (NoFront is_lost u) (AFront is_lost u) → unwrap_or o 0 ≡ lost_front (chars u)
unfolding lost_front
front_found u None n = go (chars u) refl
  where
    go : (gs : List Bytes) → chars u ≡ gs → 0 ≡ lost_front gs
    go [] e = refl
    go (g ∷ gs) e = sym (size_kept g (n.fails g gs e))
front_found u (Some r) f = front_is u r f.inside f.passes

pub back_found : (u : Bytes) (o : Option ℕ) → MatchOption o (NoBack is_lost u) (ABack is_lost u) → unwrap_or o 0 ≡ lost_back (chars u)
unfolding lost_back
back_found u None n = go (chars u) refl
  where
    go : (gs : List Bytes) → chars u ≡ gs → 0 ≡ lost_back gs
    go [] e = refl
    go (g ∷ gs) e = sym (size_kept (last_of g gs) (n.fails g gs e))
back_found u (Some r) f = back_is u r f.inside f.passes

-- where none is lost, the character is not such
kept_size : (g : Bytes) → lost_size g ≡ 0 → is_lost g ≡ false
kept_size g z = ⊎_elim (λ l. absurd (omega (arith, size_lost g l, whole_some g (lost_whole g l)))) (λ k. k) (bcase (is_lost g))

pub front_kept : (g : Bytes) (gs : List Bytes) → lost_front (g ∷ gs) ≡ 0 → is_lost g ≡ false
unfolding lost_front
front_kept g gs z = kept_size g z

pub back_kept : (g : Bytes) (gs : List Bytes) → lost_back (g ∷ gs) ≡ 0 → is_lost (last_of g gs) ≡ false
unfolding lost_back
back_kept g gs z = kept_size (last_of g gs) z

-- where some are, they are one such character
lost_size_lem : (g : Bytes) → 0 < lost_size g → (is_lost g ≡ true) × (lost_size g ≡ length g)
lost_size_lem g z = ⊎_elim (λ l. (l, size_lost g l)) (λ k. absurd (omega (arith, size_kept g k))) (bcase (is_lost g))

module _ (u : Bytes) where
  pub front_lost : 0 < lost_front (chars u) → is_lost (take (lost_front (chars u)) u) ≡ true
  unfolding lost_front texts
  front_lost z = go (chars u) refl z
    where
      go : (gs : List Bytes) → chars u ≡ gs → 0 < lost_front gs → is_lost (take (lost_front gs) u) ≡ true
      go [] e z = absurd (omega arith)
      go (g ∷ gs) e z =
          let p = lost_size_lem g z in
          let f : u ≡ g ++ flat gs = sym (flat_chars u) ∙ ap flat e in
          rw (p.1, f, take-append_seam g (flat gs)) p.0

  pub back_lost : 0 < lost_back (chars u) → is_lost (drop (length u - lost_back (chars u)) u) ≡ true
  unfolding lost_back
  back_lost z = go (chars u) refl z
    where
      go : (gs : List Bytes) → chars u ≡ gs → 0 < lost_back gs → is_lost (drop (length u - lost_back gs) u) ≡ true
      go [] e z = absurd (omega arith)
      go (g ∷ gs) e z =
          let p = lost_size_lem (last_of g gs) z in
          let k = subst (λ (x : Bytes). Ending x (last_of g gs)) (ap flat (sym e) ∙ flat_chars u) (ending g gs) in
          let n : length u - length (last_of g gs) ≡ length k.before = omega (arith, ap length k.joined, length-append k.before (last_of g gs)) in
          rw (p.1, n) (ap (λ (x : Bytes). is_lost (drop (length k.before) x)) k.joined ∙ ap is_lost (drop-append_seam k.before (last_of g gs)) ∙ p.0)

  -- and stand in the text
  pub front_inside : lost_front (chars u) ≤ length u
  unfolding lost_front texts
  front_inside = go (chars u) refl
    where
      go : (gs : List Bytes) → chars u ≡ gs → lost_front gs ≤ length u
      go [] e = omega arith
      go (g ∷ gs) e =
          let n : length u ≡ length g + length (flat gs) = ap length (sym (flat_chars u) ∙ ap flat e) ∙ length-append g (flat gs) in
          omega (arith, size_most g)

  pub back_inside : lost_back (chars u) ≤ length u
  unfolding lost_back
  back_inside = go (chars u) refl
    where
      go : (gs : List Bytes) → chars u ≡ gs → lost_back gs ≤ length u
      go [] e = omega arith
      go (g ∷ gs) e =
          let k = subst (λ (x : Bytes). Ending x (last_of g gs)) (ap flat (sym e) ∙ flat_chars u) (ending g gs) in
          let n : length u ≡ length k.before + length (last_of g gs) = ap length k.joined ∙ length-append k.before (last_of g gs) in
          omega (arith, size_most (last_of g gs))
