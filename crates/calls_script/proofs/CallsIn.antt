-- The equations of `calls_in`: a whole call in front and the calls behind it, or none. Nothing after them looks at the count. Assumes
-- nothing.
use Prim.Native.Nat.{ℕ, zero, suc, ◌+◌, ◌≤◌, ◌<◌}
use mathlib.Core.Path.{◌≡◌, refl, sym, ap, ◌∙◌}
use mathlib.Core.Bool.{true, false}
use mathlib.Core.List.{[], ◌∷◌, ◌++◌}
use mathlib.Core.Logic.{⊎_elim}
use mathlib.Core.Option.{none, some}
use native.Mathlib.Numerals.{add-one}
use native.Mathlib.Omega.{arith}
use lib.ListN.{length, drop, get_or, length-drop, drop_of_length-le}
use lib.Seq.{drop-cons, drop-drop}
use Rattle.format.specs.Bytes.{Bytes}
use Rattle.format.proofs.Lists.{below, clash}
use Rattle.format.proofs.Rulesets.{tests}
use Rattle.calls_script.specs.Script.{argument_size, both_whole, both_size, header_whole, header_size, Form, one, two, header, unknown, form_of, complete, size_of, called, calls_from, calls_in, end_of}
use Rattle.calls_script.proofs.ArgumentPlaces.{size_within, some_end, none_end}
use Rattle.calls_script.proofs.ArgumentEnds.{nothing_whole}

passed_over_lem : (k : ℕ) (s : Bytes) → calls_from k s ≡ calls_in (drop k s)
unfolding calls_from
passed_over_lem zero s = refl
passed_over_lem (suc k) [] = refl
passed_over_lem (suc k) (n ∷ t) = passed_over_lem k t

pub calls_none : calls_in [] ≡ []
unfolding calls_from
calls_none = refl

pub calls_cut : (n : ℕ) (t : Bytes) → complete (form_of n) t ≡ false → calls_in (n ∷ t) ≡ []
unfolding calls_from
calls_cut n t h = rw h refl

pub calls_first : (n : ℕ) (t : Bytes) → complete (form_of n) t ≡ true → calls_in (n ∷ t) ≡ called (form_of n) t ++ calls_in (drop (size_of (form_of n) t) t)
unfolding calls_from
calls_first n t h = rw (h, passed_over_lem (size_of (form_of n) t) t) refl

-- what follows a whole call's number is within the script
size_fits : (f : Form) (t : Bytes) → complete f t ≡ true → size_of f t ≤ length t
unfolding complete size_of both_whole both_size header_whole header_size
size_fits (one c) t h = omega (arith, size_within t 0 h)
size_fits (two c) t h = size_within t (argument_size t) (simp tests at h).1
size_fits header t h =
    let w = (simp tests at h).1.1 in
    let e = drop-drop 12 (argument_size t) t in
    omega (arith, size_within t (argument_size t + 12) (rw (sym e) w), ap argument_size e)
size_fits unknown t h = omega arith

-- A place of a script.
module _ (s : Bytes) (at : ℕ) where
  front : at < length s → calls_in (drop at s) ≡ calls_in (get_or s at 0 ∷ drop (at + 1) s)
  front h = ap calls_in (drop-cons s at 0 h ∙ ap (λ (n : ℕ). get_or s at 0 ∷ drop n s) (sym (add-one at)))

  -- no whole call stands there
  pub calls_stop : none ≡ end_of (complete (form_of (get_or s at 0)) (drop (at + 1) s)) (at + 1 + size_of (form_of (get_or s at 0)) (drop (at + 1) s)) → calls_in (drop at s) ≡ []
  calls_stop e = ⊎_elim cut over (below at (length s))
    where
      cut : at < length s → calls_in (drop at s) ≡ []
      cut h = front h ∙ calls_cut (get_or s at 0) (drop (at + 1) s) (none_end _ _ e)

      over : length s ≤ at → calls_in (drop at s) ≡ []
      over h = ap calls_in (drop_of_length-le s {i = at} h) ∙ calls_none

  -- or one does, up to the place r, and the others stand behind it
  pub record Next (r : ℕ) : Type 0 where
    pub within : at < length s
    pub whole : complete (form_of (get_or s at 0)) (drop (at + 1) s) ≡ true
    pub place : r ≤ length s
    pub later : at < r
    pub calls : calls_in (drop at s) ≡ called (form_of (get_or s at 0)) (drop (at + 1) s) ++ calls_in (drop r s)

  pub calls_next : (r : ℕ) → some r ≡ end_of (complete (form_of (get_or s at 0)) (drop (at + 1) s)) (at + 1 + size_of (form_of (get_or s at 0)) (drop (at + 1) s)) → Next r
  calls_next r e =
      let f = form_of (get_or s at 0) in
      let t = drop (at + 1) s in
      let w = some_end (complete f t) (at + 1 + size_of f t) r e in
      let inside : at < length s = ⊎_elim (λ h. h) (λ h. clash w.0 (ap (complete f) (drop_of_length-le s {i = at + 1} (omega arith)) ∙ nothing_whole f)) (below at (length s)) in
      record {
        within = inside;
        whole = w.0;
        place = omega (arith, w.1, size_fits f t w.0, length-drop (at + 1) s);
        later = omega (arith, w.1);
        calls = front inside
            ∙ calls_first (get_or s at 0) t w.0
            ∙ ap (λ (x : Bytes). called f t ++ calls_in x) (drop-drop (size_of f t) (at + 1) s ∙ ap (λ (n : ℕ). drop n s) (sym w.1));
      }
