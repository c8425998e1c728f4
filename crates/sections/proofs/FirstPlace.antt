-- The place of the first occurrence: what a step of the search knows of it. Assumes nothing.
use Prim.Native.Nat.{ℕ, zero, suc, ◌+◌, ◌≤◌, ◌<◌}
use mathlib.Core.Path.{◌≡◌, refl, sym, ap, ◌∙◌}
use mathlib.Core.Bool.{true, false, false≢true}
use mathlib.Core.List.{[], ◌∷◌}
use mathlib.Core.Logic.{⊎_elim}
use native.Mathlib.Omega.{arith}
use native.Mathlib.Numerals.{add-one}
use lib.ListN.{length, take, drop, get_or, length-drop}
use lib.Seq.{drop-cons}
use Rattle.format.specs.Bytes.{Bytes, begins, split_from}
use Rattle.format.proofs.Lists.{bcase}
use Rattle.format.proofs.Splitting.Split.{split_found, split_other}
use Rattle.sections.specs.Place.{place}
use Rattle.octets.proofs.Comparing.{begins_short}
use Rattle.sections.proofs.Begins.{begins_take}

pub place_here : (p t : Bytes) → 0 < length p → begins p t ≡ true → place p t ≡ 0
unfolding begins
place_here [] t h k = absurd (omega arith)
place_here (a ∷ p) [] h k = absurd (false≢true k)
place_here (a ∷ p) (b ∷ t) h k = rw (split_found a p b t k) refl

pub place_step : (p : Bytes) (b : ℕ) (t : Bytes) → begins p (b ∷ t) ≡ false → place p (b ∷ t) ≡ suc (place p t)
place_step p b t h = rw (split_other p b t h) refl

-- none begins at the place i
pub place_next : (p t : Bytes) (i : ℕ) → i < length t → begins p (drop i t) ≡ false → place p (drop i t) ≡ place p (drop (i + 1) t) + 1
place_next p t i h k =
    rw (add-one i, add-one (place p (drop (suc i) t)), drop-cons t i 0 h) (place_step p (get_or t i 0) (drop (suc i) t) (rw (drop-cons t i 0 h) at k))

pub place_short : (p t : Bytes) → length t < length p → place p t ≡ length t
unfolding split_from
place_short p [] h = refl
place_short p (b ∷ t) h = place_step p b t (begins_short p (b ∷ t) h) ∙ ap suc (place_short p t (omega arith))

-- none begins at the first n places, and none fits behind them
pub place_end : (n : ℕ) (p t : Bytes) → n ≤ length t → length t < n + length p → place p t ≡ n + place p (drop n t) → place p t ≡ length t
place_end n p t l h e =
    let rest = length-drop n t in
    omega (arith, place_short p (drop n t) (omega arith))

from_le : (k : ℕ) (p t : Bytes) → length (split_from k p t).first ≤ length t
unfolding split_from
from_le k p [] = omega arith
from_le zero p (b ∷ t) = ⊎_elim (λ h. rw h (omega arith)) (λ h. rw h (omega (arith, from_le 0 p t))) (bcase (begins p (b ∷ t)))
from_le (suc k) p (b ∷ t) = omega (arith, from_le k p t)

pub place_le : (p t : Bytes) → place p t ≤ length t
place_le p t = from_le 0 p t

-- A part of w bytes in which a pattern of m + 1 bytes can begin at n places: where it is found there, it is found in the text.
pub part_found : (n w m : ℕ) (p t : Bytes) → w ≡ n + m → length p ≡ m + 1 → place p (take w t) < n → place p t ≡ place p (take w t)
part_found zero w m p t e l h = absurd (omega arith)
part_found (suc n) zero m p t e l h = absurd (omega arith)
part_found (suc n) (suc w) m p [] e l h = refl
part_found (suc n) (suc w) m p (b ∷ t) e l h = ⊎_elim found (other (part_found n w m p t (omega arith) l)) (bcase (begins p (b ∷ t)))
  where
    within : begins p (b ∷ take w t) ≡ begins p (b ∷ t)
    within = begins_take p (b ∷ t) (suc w) (omega arith)

    found : begins p (b ∷ t) ≡ true → place p (b ∷ t) ≡ place p (b ∷ take w t)
    found k = place_here p (b ∷ t) (omega arith) k ∙ sym (place_here p (b ∷ take w t) (omega arith) (within ∙ k))

    other : (place p (take w t) < n → place p t ≡ place p (take w t)) → begins p (b ∷ t) ≡ false → place p (b ∷ t) ≡ place p (b ∷ take w t)
    other further k =
        let step = place_step p b (take w t) (within ∙ k) in
        place_step p b t k ∙ ap suc (further (omega arith)) ∙ sym step

-- Where it is not, the search goes on behind those places.
pub part_none : (n w m : ℕ) (p t : Bytes) → w ≡ n + m → length p ≡ m + 1 → w ≤ length t → n ≤ place p (take w t) → place p t ≡ n + place p (drop n t)
part_none zero w m p t e l f h = omega arith
part_none (suc n) zero m p t e l f h = absurd (omega arith)
part_none (suc n) (suc w) m p [] e l f h = absurd (omega arith)
part_none (suc n) (suc w) m p (b ∷ t) e l f h = ⊎_elim found (other (part_none n w m p t (omega arith) l (omega arith))) (bcase (begins p (b ∷ t)))
  where
    within : begins p (b ∷ take w t) ≡ begins p (b ∷ t)
    within = begins_take p (b ∷ t) (suc w) (omega arith)

    found : begins p (b ∷ t) ≡ true → place p (b ∷ t) ≡ suc n + place p (drop n t)
    found k = let here = place_here p (b ∷ take w t) (omega arith) (within ∙ k) in absurd (omega arith)

    other : (n ≤ place p (take w t) → place p t ≡ n + place p (drop n t)) → begins p (b ∷ t) ≡ false → place p (b ∷ t) ≡ suc n + place p (drop n t)
    other further k =
        let step = place_step p b (take w t) (within ∙ k) in
        omega (arith, place_step p b t k, further (omega arith))
