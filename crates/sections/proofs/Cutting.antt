-- What a cut says of the pieces of a text, for a text and for what is left of one from a place on. Assumes nothing.
use Prim.Native.Nat.{ℕ, ◌+◌, ◌-◌, ◌≤◌, ◌<◌}
use mathlib.Core.Path.{◌≡◌, refl, sym, ap, ◌∙◌}
use mathlib.Core.Bool.{true, false}
use Rattle.std.specs.Prelude.{Option, None, Some}
use mathlib.Core.List.{[], ◌∷◌}
use mathlib.Core.Logic.{⊎_elim}
use native.Mathlib.Omega.{arith}
use lib.ListN.{length, take, drop}
use lib.Seq.{drop-drop}
use Rattle.format.specs.Bytes.{Bytes, crlf_text, crlf_crlf_text, occurs, pieces, split}
use Rattle.format.specs.Reading.{separator, sections, line_end, lines}
use Rattle.format.proofs.Lists.{bcase, rest_is}
use Rattle.sections.specs.declared.Piece.{Piece}
use Rattle.sections.specs.Place.{place}
use Rattle.sections.specs.Cuts.{cut_of, separator_for, line_end_for}
use Rattle.sections.proofs.FirstPlace.{place_le}
use Rattle.sections.proofs.FirstCut.{found_fits, found_pieces, none_pieces, none_occurs, some_occurs}

-- the sections and the lines by what the two tests answer
pub sections_are : (t : Bytes) → sections t ≡ pieces (split (separator_for (occurs crlf_crlf_text t)) t)
unfolding sections separator
sections_are t = refl

pub lines_are : (s : Bytes) → lines s ≡ pieces (split (line_end_for (occurs crlf_text s)) s)
unfolding lines line_end
lines_are s = refl

-- by whether another piece follows
pub by_next : {P : Type 0} (o : Option ℕ) → (o ≡ None → P) → ((n : ℕ) → o ≡ Some n → P) → P
by_next None none some = none refl
by_next (Some n) none some = some n refl

-- the cut by the place that a search found
pub cut_none : (p t : Bytes) → 0 < length p → place p t ≡ length t → cut_of p t ≡ record { end = place p t; next = None }
unfolding cut_of
cut_none p t l h = rw (none_occurs p t l h, h) refl

pub cut_some : (p t : Bytes) → 0 < length p → (place p t ≡ length t → ⊥) → cut_of p t ≡ record { end = place p t; next = Some (place p t + length p) }
unfolding cut_of
cut_some p t l h = rw (some_occurs p t l h) refl

-- the cut tells whether the pattern occurs
cut_occurs : (p t : Bytes) (n : ℕ) → (cut_of p t).next ≡ Some n → (occurs p t ≡ true) × (place p t + length p ≡ n)
unfolding cut_of
cut_occurs p t n h = ⊎_elim (λ k. (k, let e : ◌≡◌ {A = Option ℕ} (Some (place p t + length p)) (Some n) = rw k at h in cc)) (λ k. let e : ◌≡◌ {A = Option ℕ} None (Some n) = rw k at h in absurd (cc)) (bcase (occurs p t))

cut_clear : (p t : Bytes) → (cut_of p t).next ≡ None → occurs p t ≡ false
unfolding cut_of
cut_clear p t h = ⊎_elim (λ k. let e : ◌≡◌ {A = Option ℕ} (Some (place p t + length p)) None = rw k at h in absurd (cc)) (λ k. k) (bcase (occurs p t))

last_clear : (p t : Bytes) (r : Piece) → r ≡ cut_of p t → r.next ≡ None → occurs p t ≡ false
last_clear p t r e h = cut_clear p t (sym (ap (λ (x : Piece). x.next) e) ∙ h)

-- r cuts the first piece off t; rest is what stands behind its separator, from the place next on
pub record More (p t rest : Bytes) (r : Piece) (next : ℕ) : Type 0 where
  pub pieces_are : pieces (split p t) ≡ take r.end t ∷ pieces (split p rest)
  pub behind : r.end + length p ≡ next
  pub within : next ≤ length t

cut_found : (p t : Bytes) → 0 < length p → occurs p t ≡ true → More p t (drop (place p t + length p) t) (cut_of p t) (place p t + length p)
unfolding cut_of
cut_found p t l h = rw h (record { pieces_are = found_pieces p t l h; behind = refl; within = found_fits p t l h })

pub cut_more : (p t : Bytes) (r : Piece) (n : ℕ) → 0 < length p → r ≡ cut_of p t → r.next ≡ Some n → More p t (drop n t) r n
cut_more p t r n l e h =
    let at = cut_occurs p t n (sym (ap (λ (x : Piece). x.next) e) ∙ h) in
    rw (e, sym at.1) (cut_found p t l at.0)

pub cut_last : (p t : Bytes) (r : Piece) → r ≡ cut_of p t → r.next ≡ None → pieces (split p t) ≡ t ∷ []
cut_last p t r e h = none_pieces p t (last_clear p t r e h)

-- what is before the cut lies within the text, and is the text where there is no separator
cut_within : (p t : Bytes) → (cut_of p t).end ≤ length t
unfolding cut_of
cut_within p t = ⊎_elim (λ h. rw h (place_le p t)) (λ h. rw h (omega arith)) (bcase (occurs p t))

last_whole : (p t : Bytes) (r : Piece) → r ≡ cut_of p t → r.next ≡ None → r.end ≡ length t
unfolding cut_of
last_whole p t r e h = ap (λ (x : Piece). x.end) e ∙ rw (last_clear p t r e h) refl

-- the same of what is left of a text from a place on
module _ (p t : Bytes) (at : ℕ) (r : Piece) (e : r ≡ cut_of p (take (length t - at) (drop at t))) where
  e_rest : r ≡ cut_of p (drop at t)
  e_rest = e ∙ ap (cut_of p) (rest_is t at)

  pub rest_more : (n : ℕ) → 0 < length p → r.next ≡ Some n → More p (drop at t) (drop (at + n) t) r n
  rest_more n l h = rw (← drop-drop n at t) (cut_more p (drop at t) r n l e_rest h)

  pub rest_last : r.next ≡ None → pieces (split p (drop at t)) ≡ drop at t ∷ []
  rest_last h = cut_last p (drop at t) r e_rest h

  pub rest_within : r.end ≤ length (drop at t)
  rest_within = rw e_rest (cut_within p (drop at t))

  pub rest_whole : r.next ≡ None → r.end ≡ length (drop at t)
  rest_whole h = last_whole p (drop at t) r e_rest h
