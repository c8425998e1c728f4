-- Document 01, "Characters": with each maximal ill-formed subpart replaced by U+FFFD any bytes are UTF-8, and only a text that is
-- UTF-8 already stays as it is. Both follow from the characters of a join. Assumes nothing.
use Rattle.std.specs.Prelude.{if◌then◌else◌}
use mathlib.Core.Path.{◌≡◌, refl, sym, ap, ◌∙◌}
use mathlib.Core.Bool.{Bool, true, false}
use mathlib.Core.List.{List, [], ◌∷◌}
use Rattle.format.specs.Bytes.{Bytes, all, texts}
use Rattle.format.specs.Characters.{trail_in, fits, well_formed, is_utf8, chars, flat, replacement, or_replaced, replaced}
use Rattle.format.proofs.Lists.{all_head, all_tail, all_cons}
use Rattle.format.proofs.Characters.Chars.{flat_chars, utf8_whole, utf8_texts}

-- U+FFFD is a well-formed character
pub whole_replacement : well_formed replacement ≡ true
unfolding well_formed trail_in fits
whole_replacement = refl

utf8_or_replaced : (g : Bytes) → is_utf8 (or_replaced g) ≡ true
utf8_or_replaced g = go (well_formed g) refl
  where
    go : (w : Bool) → well_formed g ≡ w → is_utf8 (if w then g else replacement) ≡ true
    go true h = utf8_whole g h
    go false h = utf8_whole replacement whole_replacement

pub replaced_utf8 : (s : Bytes) → is_utf8 (replaced s) ≡ true
unfolding replaced all
replaced_utf8 s = utf8_texts or_replaced (chars s) (each (chars s))
  where
    each : (gs : List Bytes) → all (λ g. is_utf8 (or_replaced g)) gs ≡ true
    each [] = refl
    each (g ∷ gs) = all_cons (λ g. is_utf8 (or_replaced g)) g gs (utf8_or_replaced g) (each gs)

kept : (gs : List Bytes) → all well_formed gs ≡ true → texts or_replaced gs ≡ flat gs
unfolding texts
kept [] h = refl
kept (g ∷ gs) h = rw (all_head well_formed g gs h, kept gs (all_tail well_formed g gs h)) refl

pub replaced_same : (s : Bytes) → is_utf8 s ≡ true → replaced s ≡ s
unfolding replaced is_utf8
replaced_same s h = kept (chars s) h ∙ flat_chars s

pub replaced_only : (s : Bytes) → replaced s ≡ s → is_utf8 s ≡ true
replaced_only s e = sym (ap is_utf8 e) ∙ replaced_utf8 s
