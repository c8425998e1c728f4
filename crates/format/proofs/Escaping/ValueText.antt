-- Document 02, T-03: a header value as it is written reads back in either manner, is UTF-8, has no control byte, at most six bytes for one, and no white space
-- at either end, so trimming takes nothing from it. It is the text of `escape` exactly where neither end is white space that is no
-- control character. Assumes nothing.
use Prim.Native.Nat.{◌*◌, ◌≤◌, ◌<◌}
use mathlib.Core.Path.{◌≡◌, refl, sym, ap, ◌∙◌}
use mathlib.Core.Bool.{Bool, true, false, not}
use mathlib.Core.Logic.{⊎_elim, ◌↔◌}
use mathlib.Core.List.{List, [], ◌∷◌, ◌++◌, append-nil}
use mathlib.Core.Option.{some}
use native.Mathlib.Omega.{arith}
use lib.Dec.{leb}
use lib.ListN.{length, length-append}
use borrow.Author.Tests.{not-true}
use Rattle.format.specs.Bytes.{Bytes, all, texts}
use Rattle.format.specs.Characters.{chars, well_formed, is_utf8, flat, is_white, is_lost, trim, last_of, clear_of, clear_ends}
use Rattle.format.specs.Escaping.{escape_char, escape, end_form, last_forms, value_forms, value_text, in_front, unescape_from, unescape_by}
use Rattle.format.specs.declared.Manner.{Manner}
use Rattle.format.proofs.Lists.{bcase, and_left, and_right, and_intro, all_append, all_head, all_tail}
use Rattle.format.proofs.Characters.Chars.{chars_nil, flat_chars, chars_append, utf8_append, utf8_nil}
use Rattle.format.proofs.Characters.Trim.{trim_clear}
use Rattle.format.proofs.Escaping.Escape.{escape_char_read, escape_char_utf8, escape_char_printable, escape_char_length}
use Rattle.format.proofs.Escaping.EndForm.{end_read, end_utf8, end_printable, end_length, end_longer, end_least, Dark, end_dark}

-- What is so of no characters, and stays so with one more in front of them however it is written, is so of all characters of a value.
module _
    (holds : List Bytes → Bytes → Type 0)
    (p : Bytes → Bool)
    (empty : holds [] [])
    (inner : (g : Bytes) (gs : List Bytes) (t : Bytes) → p g ≡ true → holds gs t → holds (g ∷ gs) (escape_char g ++ t))
    (end : (g : Bytes) (gs : List Bytes) (t : Bytes) → p g ≡ true → holds gs t → holds (g ∷ gs) (end_form g ++ t)) where
  last_holds : (gs : List Bytes) → all p gs ≡ true → holds gs (last_forms gs)
  unfolding last_forms
  last_holds [] h = empty
  last_holds (g ∷ []) h = rw (append-nil (end_form g)) at (end g [] [] (all_head p g [] h) empty)
  last_holds (g ∷ k ∷ gs) h = inner g (k ∷ gs) (last_forms (k ∷ gs)) (all_head p g (k ∷ gs) h) (last_holds (k ∷ gs) (all_tail p g (k ∷ gs) h))

  forms_hold : (gs : List Bytes) → all p gs ≡ true → holds gs (value_forms gs)
  unfolding value_forms
  forms_hold [] h = empty
  forms_hold (g ∷ gs) h = end g gs (last_forms gs) (all_head p g gs h) (last_holds gs (all_tail p g gs h))

-- what is written reads back
pub value_read_lem : (r : Manner) (v : Bytes) → is_utf8 v ≡ true → unescape_by r (value_text v) ≡ some v
unfolding value_text is_utf8 texts unescape_from
value_read_lem r v u =
    forms_hold (λ gs t. unescape_by r t ≡ some (flat gs)) well_formed refl
    (λ g gs t w h. escape_char_read r g t w ∙ ap (in_front g) h)
    (λ g gs t w h. end_read r g t w ∙ ap (in_front g) h)
    (chars v) u
    ∙ ap some (flat_chars v)

pub value_utf8 : (v : Bytes) → is_utf8 v ≡ true → is_utf8 (value_text v) ≡ true
unfolding value_text is_utf8
value_utf8 v u =
    forms_hold (λ gs t. is_utf8 t ≡ true) well_formed utf8_nil
    (λ g gs t w h. utf8_append (escape_char g) t (escape_char_utf8 g w) ∙ h)
    (λ g gs t w h. utf8_append (end_form g) t (end_utf8 g w) ∙ h)
    (chars v) u

-- no line end in it
pub value_printable : (v : Bytes) → is_utf8 v ≡ true → all (leb 32) (value_text v) ≡ true
unfolding value_text is_utf8 all
value_printable v u =
    forms_hold (λ gs t. all (leb 32) t ≡ true) well_formed refl
    (λ g gs t w h. all_append (leb 32) (escape_char g) t ∙ and_intro _ _ (escape_char_printable g w) h)
    (λ g gs t w h. all_append (leb 32) (end_form g) t ∙ and_intro _ _ (end_printable g w) h)
    (chars v) u

any_char : (gs : List Bytes) → all (λ g. true) gs ≡ true
unfolding all
any_char [] = refl
any_char (g ∷ gs) = any_char gs

-- six bytes at most for one
pub value_length_lem : (v : Bytes) → length (value_text v) ≤ 6 * length v
unfolding value_text texts
value_length_lem v =
    let l =
    forms_hold (λ gs t. length t ≤ 6 * length (flat gs)) (λ g. true) (omega arith)
    (λ g gs t w h. omega (arith, escape_char_length g, length-append g (flat gs), length-append (escape_char g) t))
    (λ g gs t w h. omega (arith, end_length g, length-append g (flat gs), length-append (end_form g) t))
    (chars v) (any_char (chars v))
    in
    omega (arith, ap length (flat_chars v))

-- A text whose last character is no white space.
record Ended (s : Bytes) : Type 0 where
  first : Bytes
  rest : List Bytes
  is : chars s ≡ first ∷ rest
  dark : is_white (last_of first rest) ≡ false

last_all : (p : Bytes → Bool) (g : Bytes) (gs : List Bytes) → all p (g ∷ gs) ≡ true → p (last_of g gs) ≡ true
unfolding last_of
last_all p g [] h = all_head p g [] h
last_all p g (k ∷ gs) h = last_all p k gs (all_tail p g (k ∷ gs) h)

last_behind : (g : Bytes) (gs : List Bytes) (k : Bytes) (ks : List Bytes) → last_of g (gs ++ (k ∷ ks)) ≡ last_of k ks
unfolding last_of
last_behind g [] k ks = refl
last_behind g (h ∷ gs) k ks = last_behind h gs k ks

front_dark : {s : Bytes} (d : Dark s) → is_white d.first ≡ false
front_dark d = not-true (is_white d.first) (all_head (λ g. not (is_white g)) d.first d.rest d.dark)

back_dark : {s : Bytes} (d : Dark s) → is_white (last_of d.first d.rest) ≡ false
back_dark d = not-true (is_white (last_of d.first d.rest)) (last_all (λ g. not (is_white g)) d.first d.rest d.dark)

-- so it stays with UTF-8 in front of it
ended_behind : (s t : Bytes) (gs : List Bytes) → is_utf8 s ≡ true → chars s ≡ gs → Ended t → Ended (s ++ t)
ended_behind s t [] u e d = record { first = d.first; rest = d.rest; is = chars_append s t u ∙ rw (e, d.is) refl; dark = d.dark }
ended_behind s t (g ∷ gs) u e d =
    record {
      first = g;
      rest = gs ++ (d.first ∷ d.rest);
      is = chars_append s t u ∙ rw (e, d.is) refl;
      dark = ap is_white (last_behind g gs d.first d.rest) ∙ d.dark;
    }

last_ended : (g : Bytes) (gs : List Bytes) → all well_formed (g ∷ gs) ≡ true → Ended (last_forms (g ∷ gs))
unfolding last_forms
last_ended g [] w =
    let d = end_dark g (all_head well_formed g [] w) in
    record { first = d.first; rest = d.rest; is = d.is; dark = back_dark d }
last_ended g (k ∷ gs) w =
    ended_behind (escape_char g) (last_forms (k ∷ gs)) (chars (escape_char g)) (escape_char_utf8 g (all_head well_formed g (k ∷ gs) w)) refl
    (last_ended k gs (all_tail well_formed g (k ∷ gs) w))

both_clear : (p : Bytes → Bool) (g : Bytes) (gs : List Bytes) → p g ≡ false → p (last_of g gs) ≡ false → clear_of p (g ∷ gs) ≡ true
unfolding clear_of
both_clear p g gs a b = rw (a, b) refl

forms_clear : (gs : List Bytes) → all well_formed gs ≡ true → clear_of is_white (chars (value_forms gs)) ≡ true
unfolding clear_of value_forms last_forms ended_behind
forms_clear [] w = ap (clear_of is_white) chars_nil
forms_clear (g ∷ []) w =
    let d = end_dark g (all_head well_formed g [] w) in
    ap (λ (t : Bytes). clear_of is_white (chars t)) (append-nil (end_form g)) ∙ ap (clear_of is_white) d.is ∙ both_clear is_white d.first d.rest (front_dark d) (back_dark d)
forms_clear (g ∷ k ∷ gs) w =
    let u = end_utf8 g (all_head well_formed g (k ∷ gs) w) in
    let d = end_dark g (all_head well_formed g (k ∷ gs) w) in
    let e = ended_behind (end_form g) (last_forms (k ∷ gs)) (d.first ∷ d.rest) u d.is (last_ended k gs (all_tail well_formed g (k ∷ gs) w)) in
    ap (clear_of is_white) e.is ∙ both_clear is_white e.first e.rest (front_dark d) e.dark

-- neither end of it is white space, so trimming takes nothing
pub value_trim : (v : Bytes) → is_utf8 v ≡ true → trim (value_text v) ≡ value_text v
unfolding value_text is_utf8 clear_ends
value_trim v u = trim_clear is_white (value_text v) (forms_clear (chars v) u)

-- What differs from `escape`, and where.

-- where the last character is not lost, all are written as everywhere
pub last_escape : (g : Bytes) (gs : List Bytes) → is_lost (last_of g gs) ≡ false → last_forms (g ∷ gs) ≡ texts escape_char (g ∷ gs)
unfolding last_forms last_of texts end_form
last_escape g [] l = rw l (sym (append-nil (escape_char g)))
last_escape g (k ∷ gs) l = ap (λ (t : Bytes). escape_char g ++ t) (last_escape k gs l)

-- where the first is not lost, it is written as if it were no end
pub forms_last : (g : Bytes) (gs : List Bytes) → is_lost g ≡ false → value_forms (g ∷ gs) ≡ last_forms (g ∷ gs)
unfolding value_forms last_forms end_form
forms_last g [] l = rw l (append-nil (escape_char g))
forms_last g (k ∷ gs) l = rw l refl

last_least : (gs : List Bytes) → length (texts escape_char gs) ≤ length (last_forms gs)
unfolding last_forms texts
last_least [] = omega arith
last_least (g ∷ []) = omega (arith, end_least g, length-append (escape_char g) [])
last_least (g ∷ k ∷ gs) =
    omega (arith, last_least (k ∷ gs), length-append (escape_char g) (texts escape_char (k ∷ gs)), length-append (escape_char g) (last_forms (k ∷ gs)))

last_longer : (g : Bytes) (gs : List Bytes) → is_lost (last_of g gs) ≡ true → length (texts escape_char (g ∷ gs)) < length (last_forms (g ∷ gs))
unfolding last_forms last_of texts
last_longer g [] l = omega (arith, end_longer g l, length-append (escape_char g) [])
last_longer g (k ∷ gs) l =
    omega (arith, last_longer k gs l, length-append (escape_char g) (texts escape_char (k ∷ gs)), length-append (escape_char g) (last_forms (k ∷ gs)))

front_longer : (g : Bytes) (gs : List Bytes) → is_lost g ≡ true → length (texts escape_char (g ∷ gs)) < length (value_forms (g ∷ gs))
unfolding value_forms texts
front_longer g gs l =
    omega (arith, end_longer g l, last_least gs, length-append (escape_char g) (texts escape_char gs), length-append (end_form g) (last_forms gs))

forms_escape : (gs : List Bytes) → (value_forms gs ≡ texts escape_char gs) ↔ (clear_of is_lost gs ≡ true)
unfolding clear_of value_forms texts
forms_escape [] = ((λ e. refl), (λ h. refl))
forms_escape (g ∷ gs) = (only, if_clear)
  where
    last : is_lost g ≡ false → value_forms (g ∷ gs) ≡ texts escape_char (g ∷ gs) → clear_of is_lost (g ∷ gs) ≡ true
    last l e =
        ⊎_elim (λ b. absurd (omega (arith, last_longer g gs b, ap length (sym (forms_last g gs l) ∙ e)))) (both_clear is_lost g gs l)
        (bcase (is_lost (last_of g gs)))

    only : value_forms (g ∷ gs) ≡ texts escape_char (g ∷ gs) → clear_of is_lost (g ∷ gs) ≡ true
    only e = ⊎_elim (λ l. absurd (omega (arith, front_longer g gs l, ap length e))) (λ l. last l e) (bcase (is_lost g))

    if_clear : clear_of is_lost (g ∷ gs) ≡ true → value_forms (g ∷ gs) ≡ texts escape_char (g ∷ gs)
    if_clear h =
        forms_last g gs (not-true (is_lost g) (and_left (not (is_lost g)) (not (is_lost (last_of g gs))) h))
        ∙ last_escape g gs (not-true (is_lost (last_of g gs)) (and_right (not (is_lost g)) (not (is_lost (last_of g gs))) h))

-- A header value is written as by `escape` exactly where neither end is white space that is no control character.
pub value_escape : (v : Bytes) → (value_text v ≡ escape v) ↔ (clear_ends is_lost v ≡ true)
unfolding value_text escape clear_ends
value_escape v = forms_escape (chars v)
