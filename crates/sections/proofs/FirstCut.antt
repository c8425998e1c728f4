-- A text cut at the pattern's first occurrence: what stands before it, the pattern, and the rest, whose pieces are the
-- text's other pieces. Carried by one induction over the text. Assumes nothing.
use Prim.Native.Nat.{ℕ, suc, ◌+◌, ◌≤◌, ◌<◌}
use mathlib.Core.Path.{◌≡◌, refl, sym, ap, ◌∙◌}
use mathlib.Core.Bool.{true, false, false≢true}
use mathlib.Core.List.{[], ◌∷◌, ◌++◌}
use mathlib.Core.Logic.{⊎_elim}
use native.Mathlib.Omega.{arith}
use native.Mathlib.Nat.{zero-add, suc-add}
use lib.Dec.{ltb}
use lib.ListN.{length, take, drop, length-append}
use borrow.Author.Tests.{lt-ltb, le-ltb}
use Rattle.format.specs.Bytes.{Bytes, begins, occurs, pieces, split}
use Rattle.format.proofs.Lists.{bcase}
use Rattle.format.proofs.Splitting.Split.{begins_drop, split_found, split_other, split_skip, split_none}
use Rattle.sections.specs.Place.{place}
use Rattle.sections.proofs.FirstPlace.{place_here, place_step, place_le}

-- the pattern's first occurrence, with r its place
pub record Found (p t : Bytes) (r : ℕ) : Type 0 where
  pub text : t ≡ take r t ++ (p ++ drop (r + length p) t)
  pub first : (split p t).first ≡ take r t
  pub rest : (split p t).rest ≡ pieces (split p (drop (r + length p) t))

found_here : (c : ℕ) (p : Bytes) (b : ℕ) (t : Bytes) → begins (c ∷ p) (b ∷ t) ≡ true → Found (c ∷ p) (b ∷ t) 0
found_here c p b t h =
    record {
      text = rw (zero-add (suc (length p))) (sym (begins_drop (c ∷ p) (b ∷ t) h));
      first = rw (split_found c p b t h) refl;
      rest = rw (zero-add (suc (length p)), split_found c p b t h, split_skip (length p) (c ∷ p) t) refl;
    }

found_later : (p : Bytes) (b : ℕ) (t : Bytes) (r : ℕ) → begins p (b ∷ t) ≡ false → Found p t r → Found p (b ∷ t) (suc r)
found_later p b t r h f =
    record {
      text = rw (suc-add r (length p)) (ap (λ (u : Bytes). b ∷ u) f.text);
      first = rw (split_other p b t h) (ap (λ (u : Bytes). b ∷ u) f.first);
      rest = rw (suc-add r (length p), split_other p b t h) f.rest;
    }

step : (c : ℕ) (p : Bytes) (b : ℕ) (t : Bytes) → occurs (c ∷ p) (b ∷ t) ≡ true
    → (occurs (c ∷ p) t ≡ true → Found (c ∷ p) t (place (c ∷ p) t)) → Found (c ∷ p) (b ∷ t) (place (c ∷ p) (b ∷ t))
unfolding occurs
step c p b t h ih = ⊎_elim here later (bcase (begins (c ∷ p) (b ∷ t)))
  where
    here : begins (c ∷ p) (b ∷ t) ≡ true → Found (c ∷ p) (b ∷ t) (place (c ∷ p) (b ∷ t))
    here k = rw (place_here (c ∷ p) (b ∷ t) (omega arith) k) (found_here c p b t k)

    later : begins (c ∷ p) (b ∷ t) ≡ false → Found (c ∷ p) (b ∷ t) (place (c ∷ p) (b ∷ t))
    later k = rw (place_step (c ∷ p) b t k) (found_later (c ∷ p) b t (place (c ∷ p) t) k (ih (rw k at h)))

pub found : (p t : Bytes) → 0 < length p → occurs p t ≡ true → Found p t (place p t)
unfolding occurs
found [] t l h = absurd (omega arith)
found (c ∷ p) [] l h = absurd (false≢true h)
found (c ∷ p) (b ∷ t) l h = step c p b t h (found (c ∷ p) t l)

-- the occurrence lies within the text
pub found_fits : (p t : Bytes) → 0 < length p → occurs p t ≡ true → place p t + length p ≤ length t
found_fits p t l h =
    let r = place p t in
    let f = found p t l h in
    let whole = ap length f.text ∙ length-append (take r t) (p ++ drop (r + length p) t) in
    let behind = length-append p (drop (r + length p) t) in
    let before = sym (ap length f.first) in
    omega arith

pub found_pieces : (p t : Bytes) → 0 < length p → occurs p t ≡ true
    → pieces (split p t) ≡ take (place p t) t ∷ pieces (split p (drop (place p t + length p) t))
found_pieces p t l h = let f = found p t l h in rw (← f.first, ← f.rest) refl

-- where there is none the text is its only piece
pub none_place : (p t : Bytes) → occurs p t ≡ false → place p t ≡ length t
none_place p t h = rw (split_none p t h) refl

pub none_pieces : (p t : Bytes) → occurs p t ≡ false → pieces (split p t) ≡ t ∷ []
none_pieces p t h = rw (split_none p t h) refl

-- the place tells whether the pattern occurs
pub occurs_place : (p t : Bytes) → 0 < length p → occurs p t ≡ ltb (place p t) (length t)
occurs_place p t l = ⊎_elim yes no (bcase (occurs p t))
  where
    yes : occurs p t ≡ true → occurs p t ≡ ltb (place p t) (length t)
    yes h = let fits = found_fits p t l h in h ∙ sym (lt-ltb (place p t) (length t) (omega arith))

    no : occurs p t ≡ false → occurs p t ≡ ltb (place p t) (length t)
    no h = let none = none_place p t h in h ∙ sym (le-ltb (place p t) (length t) (omega arith))

-- the text's length means that there is none
pub none_occurs : (p t : Bytes) → 0 < length p → place p t ≡ length t → occurs p t ≡ false
none_occurs p t l h = occurs_place p t l ∙ le-ltb (place p t) (length t) (omega arith)

-- a place before the end is that of an occurrence
pub some_occurs : (p t : Bytes) → 0 < length p → (place p t ≡ length t → ⊥) → occurs p t ≡ true
some_occurs p t l h = let le = place_le p t in occurs_place p t l ∙ lt-ltb (place p t) (length t) (omega arith)

pub some_fits : (p t : Bytes) → 0 < length p → (place p t ≡ length t → ⊥) → place p t + length p ≤ length t
some_fits p t l h = found_fits p t l (some_occurs p t l h)
