-- Document 02, T-03: a character at an end of a header value, as it is written. It reads back in either manner, is UTF-8, has no control byte and at most six
-- bytes for one, and none of the characters that it is written in is white space. Assumes nothing.
use Prim.Native.Nat.{ℕ, ◌*◌, ◌≤◌, ◌<◌}
use mathlib.Core.Path.{◌≡◌, refl, sym, ap, ◌∙◌}
use mathlib.Core.Bool.{true, false, not, and-true}
use mathlib.Core.Logic.{⊎_elim}
use mathlib.Core.List.{List, [], ◌∷◌, ◌++◌, append-nil}
use native.Mathlib.Omega.{arith}
use lib.Dec.{leb, ltb}
use lib.ListN.{length}
use borrow.Author.Tests.{leb-true, ltb-true, not-true}
use Rattle.format.specs.Bytes.{Bytes, all, backslash}
use Rattle.format.specs.Characters.{chars, well_formed, is_utf8, code_point, is_white, is_control, is_lost}
use Rattle.format.specs.Escaping.{unicode_escape, escape_char, end_form, in_front, unescape_by}
use Rattle.format.specs.declared.Manner.{Manner}
use Rattle.format.proofs.Lists.{bcase, clash, and_left, and_right, all_head, all_tail}
use Rattle.format.proofs.Characters.Chars.{chars_nil, chars_whole, chars_ascii}
use Rattle.format.proofs.Characters.WhiteSpace.{white_all}
use Rattle.format.proofs.Characters.Shapes.{Shape, one, two, three, four, shape}
use Rattle.format.proofs.Escaping.Escape.{visible, visible_utf8, visible_printable, unicode_visible, unicode_char_read, Written, bare, coded, written, escape_char_read, escape_char_utf8, escape_char_printable, escape_char_length}

-- what holds of both ways in which it can be written
end_either : (P : Bytes → Type 0) (g : Bytes) → (is_lost g ≡ true → P (unicode_escape (code_point g))) → (is_lost g ≡ false → P (escape_char g)) → P (end_form g)
unfolding end_form
end_either P g a b = ⊎_elim (λ l. rw l (a l)) (λ l. rw l (b l)) (bcase (is_lost g))

pub lost_is_white : (g : Bytes) → is_lost g ≡ true → is_white g ≡ true
unfolding is_lost
lost_is_white g l = and_left (is_white g) (not (is_control g)) l

pub lost_whole : (g : Bytes) → is_lost g ≡ true → well_formed g ≡ true
unfolding is_white
lost_whole g l = and_left (well_formed g) _ (lost_is_white g l)

-- four digits are enough for each of the 25
lost_code : (g : Bytes) → is_lost g ≡ true → code_point g < 65536
unfolding all
lost_code g l = omega (arith, ltb-true (code_point g) 65536 (white_all (λ n. ltb n 65536) refl g (lost_is_white g l)))

pub end_read : (r : Manner) (g s : Bytes) → well_formed g ≡ true → unescape_by r (end_form g ++ s) ≡ in_front g (unescape_by r s)
end_read r g s w =
    end_either (λ t. unescape_by r (t ++ s) ≡ in_front g (unescape_by r s)) g (λ l. unicode_char_read r g s w (lost_code g l)) (λ l. escape_char_read r g s w)

pub end_utf8 : (g : Bytes) → well_formed g ≡ true → is_utf8 (end_form g) ≡ true
end_utf8 g w =
    end_either (λ t. is_utf8 t ≡ true) g (λ l. visible_utf8 (unicode_escape (code_point g)) (unicode_visible (code_point g))) (λ l. escape_char_utf8 g w)

pub end_printable : (g : Bytes) → well_formed g ≡ true → all (leb 32) (end_form g) ≡ true
end_printable g w =
    end_either (λ t. all (leb 32) t ≡ true) g (λ l. visible_printable (unicode_escape (code_point g)) (unicode_visible (code_point g)))
    (λ l. escape_char_printable g w)

lost_filled : (g : Bytes) → is_lost g ≡ true → 6 ≤ 6 * length g
unfolding well_formed
lost_filled [] l = clash (lost_whole [] l) refl
lost_filled (b ∷ t) l = omega arith

pub end_length : (g : Bytes) → length (end_form g) ≤ 6 * length g
unfolding unicode_escape
end_length g = end_either (λ t. length t ≤ 6 * length g) g (lost_filled g) (λ l. escape_char_length g)

whole_short : (g : Bytes) → Shape g → length g ≤ 4
whole_short _ (one a h) = omega arith
whole_short _ (two a b h i) = omega arith
whole_short _ (three a b c h i j k l) = omega arith
whole_short _ (four a b c d h i j k l) = omega arith

lost_bare : (g : Bytes) → is_lost g ≡ true → Written g → escape_char g ≡ g
lost_bare g l (bare e c p) = e
lost_bare g l (coded b t e a k r) = clash l k

-- it is longer than elsewhere where it is lost, and never shorter
pub end_longer : (g : Bytes) → is_lost g ≡ true → length (escape_char g) < length (end_form g)
unfolding end_form unicode_escape
end_longer g l = rw (l, lost_bare g l (written g (lost_whole g l))) (omega (arith, whole_short g (shape g (lost_whole g l))))

pub end_least : (g : Bytes) → length (escape_char g) ≤ length (end_form g)
unfolding end_form
end_least g = ⊎_elim (λ l. omega (arith, end_longer g l)) (λ l. rw l (omega arith)) (bcase (is_lost g))

-- visible ASCII is no white space, as no white space is visible ASCII
visible_not_white : (b : ℕ) → visible b ≡ true → is_white (b ∷ []) ≡ false
unfolding all code_point
visible_not_white b v =
    ⊎_elim (λ w. clash v (not-true (visible b) (white_all (λ n. not (visible n)) refl (b ∷ []) w))) (λ w. w) (bcase (is_white (b ∷ [])))

visible_ascii : (b : ℕ) → visible b ≡ true → b < 128
visible_ascii b v = omega (arith, leb-true b 126 (and_right (leb 33 b) (leb b 126) v))

visible_chars : (s : Bytes) → all visible s ≡ true → all (λ g. not (is_white g)) (chars s) ≡ true
unfolding all
visible_chars [] h = rw chars_nil refl
visible_chars (b ∷ s) h =
    let v = all_head visible b s h in
    rw (chars_ascii b s (visible_ascii b v), visible_not_white b v) (visible_chars s (all_tail visible b s h))

-- A text with a character, none of which is white space.
pub record Dark (s : Bytes) : Type 0 where
  pub first : Bytes
  pub rest : List Bytes
  pub is : chars s ≡ first ∷ rest
  pub dark : all (λ g. not (is_white g)) (first ∷ rest) ≡ true

visible_dark : (b : ℕ) (t : Bytes) → all visible (b ∷ t) ≡ true → Dark (b ∷ t)
visible_dark b t h =
    let e = chars_ascii b t (visible_ascii b (all_head visible b t h)) in
    record { first = b ∷ []; rest = chars t; is = e; dark = ap (all (λ g. not (is_white g))) (sym e) ∙ visible_chars (b ∷ t) h }

kept_dark : (g : Bytes) → well_formed g ≡ true → is_lost g ≡ false → Written g → Dark (escape_char g)
unfolding all is_lost
kept_dark g w l (bare e c p) =
    let white : is_white g ≡ false = sym (rw c (and-true (is_white g))) ∙ l in
    record { first = g; rest = []; is = ap chars (e ∙ sym (append-nil g)) ∙ chars_whole g [] w ∙ rw chars_nil refl; dark = rw white refl }
kept_dark g w l (coded b t e a k r) = rw e (visible_dark b t a)

pub end_dark : (g : Bytes) → well_formed g ≡ true → Dark (end_form g)
unfolding unicode_escape
end_dark g w = end_either Dark g (λ l. visible_dark backslash _ (unicode_visible (code_point g))) (λ l. kept_dark g w l (written g w))
