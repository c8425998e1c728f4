-- What the trailing ranges of a lead byte say of the text there: a character's length and a subpart's. All is induction over any ranges.
-- Assumes nothing.
use Rattle.std.specs.Prelude.{if◌then◌else◌}
use Prim.Native.Nat.{ℕ, suc, ◌+◌, ◌≤◌, ◌<◌}
use mathlib.Core.Path.{◌≡◌, refl, sym, ap, ◌∙◌}
use mathlib.Core.Logic.{⊎_elim}
use mathlib.Core.List.{List, [], ◌∷◌}
use mathlib.Core.Option.{none, some}
use native.Mathlib.Omega.{arith}
use native.Mathlib.Numerals.{add-one}
use lib.Dec.{eqb, eqb-zero-suc, eqb-suc-suc}
use lib.ListN.{length, take, drop, get_or, drop_of_length-le}
use lib.Seq.{drop-cons}
use borrow.Author.Tests.{eq-eqb, ne_eqb}
use Rattle.std.specs.List.{prefix_len, zip}
use Rattle.format.specs.Bytes.{Bytes}
use Rattle.format.specs.Characters.{Range, within, trail_of, fits, matched, well_formed}
use Rattle.format.proofs.Lists.{bcase}
use Rattle.format.proofs.Characters.Table.{trail_ascii}
use Rattle.characters.specs.Coded.{coded, coded_all}
use Rattle.characters.specs.Lengths.{subpart_len, char_len}

-- ranges and bytes side by side, as far as each byte is within its range
pub zip_matched : (ps : List (ℕ × ℕ)) (t : Bytes) → prefix_len (λ (q : (ℕ × ℕ) × ℕ). within q.1 (coded q.0)) (zip ps t) ≡ matched (coded_all ps) t
unfolding matched
zip_matched [] t = refl
zip_matched (p ∷ ps) [] = refl
zip_matched (p ∷ ps) (b ∷ t) =
    ⊎_elim
    (λ w. rw w (ap (λ (k : ℕ). 1 + k) (zip_matched ps t) ∙ omega arith))
    (λ w. rw w refl)
    (bcase (within b (coded p)))

-- bytes that were matched fit exactly where they are as many as the ranges
pub fits_matched : (rs : List Range) (t : Bytes) → fits rs (take (matched rs t) t) ≡ eqb (matched rs t) (length rs)
unfolding fits matched
fits_matched [] t = refl
fits_matched (r ∷ rs) [] = sym (eqb-zero-suc (length rs))
fits_matched (r ∷ rs) (b ∷ t) =
    ⊎_elim
    (λ w. rw w (rw w (fits_matched rs t ∙ sym (eqb-suc-suc (matched rs t) (length rs)))))
    (λ w. rw w (sym (eqb-zero-suc (length rs))))
    (bcase (within b r))

pub matched_few : (rs : List Range) (t : Bytes) → matched rs t ≤ length t
unfolding matched
matched_few [] t = omega arith
matched_few (r ∷ rs) [] = omega arith
matched_few (r ∷ rs) (b ∷ t) = ⊎_elim (λ w. rw w (omega (arith, matched_few rs t))) (λ w. rw w (omega arith)) (bcase (within b r))

subpart_some : (b : ℕ) (t : Bytes) (rs : List Range) → trail_of b ≡ some rs → subpart_len (b ∷ t) ≡ suc (matched rs t)
unfolding subpart_len
subpart_some b t rs e = rw e refl

char_some : (b : ℕ) (t : Bytes) (rs : List Range) → trail_of b ≡ some rs → char_len (b ∷ t) ≡ (if eqb (matched rs t) (length rs) then suc (matched rs t) else 0)
unfolding char_len subpart_len well_formed
char_some b t rs e = rw (e, fits_matched rs t) refl

module _ (s : Bytes) (at : ℕ) (h : at < length s) where
  -- the byte there leads nothing
  pub subpart_none : trail_of (get_or s at 0) ≡ none → 1 ≡ subpart_len (drop at s)
  unfolding subpart_len
  subpart_none e = rw (drop-cons s at 0 h, e) refl

  pub char_none : trail_of (get_or s at 0) ≡ none → 0 ≡ char_len (drop at s)
  unfolding char_len subpart_len well_formed
  char_none e = rw (drop-cons s at 0 h, e) refl

  -- or n bytes behind it are within the ranges that it leads
  module _ (rs : List Range) (n : ℕ) (e : trail_of (get_or s at 0) ≡ some rs) (m : n ≡ matched rs (drop (at + 1) s)) where
    row_matched : n ≡ matched rs (drop (suc at) s)
    row_matched = m ∙ ap (λ (k : ℕ). matched rs (drop k s)) (add-one at)

    pub subpart_row : n + 1 ≡ subpart_len (drop at s)
    subpart_row = rw (drop-cons s at 0 h, subpart_some (get_or s at 0) (drop (suc at) s) rs e) (omega (arith, row_matched))

    char_row : char_len (drop at s) ≡ (if eqb n (length rs) then suc n else 0)
    char_row = rw (drop-cons s at 0 h, char_some (get_or s at 0) (drop (suc at) s) rs e, ← row_matched) refl

    -- all of them, or not all
    pub char_whole : n ≡ length rs → length rs + 1 ≡ char_len (drop at s)
    char_whole l = rw (char_row, eq-eqb n (length rs) l) (omega arith)

    pub char_part : (n ≡ length rs → ⊥) → 0 ≡ char_len (drop at s)
    char_part l = rw (char_row, ne_eqb n (length rs) l) refl

pub past_end : (s : Bytes) (at : ℕ) → length s ≤ at → (0 ≡ subpart_len (drop at s)) × (0 ≡ char_len (drop at s))
unfolding subpart_len char_len well_formed
past_end s at h = (rw (drop_of_length-le s h) refl, rw (drop_of_length-le s h) refl)

-- a byte below 128 is a character of its own
pub char_ascii : (s : Bytes) (at : ℕ) → at < length s → get_or s at 0 < 0x80 → 1 ≡ char_len (drop at s)
unfolding fits matched
char_ascii s at h l = rw (drop-cons s at 0 h, char_some (get_or s at 0) (drop (suc at) s) [] (trail_ascii (get_or s at 0) l)) refl
