-- Where the parts of a header line stand: 28 by the place of the first space, the name, and the text that has the parameters. Assumes nothing.
use Prim.Native.Nat.{ℕ, ◌≤◌, ◌<◌}
use mathlib.Core.Path.{◌≡◌, refl, sym, ap, ◌∙◌}
use mathlib.Core.Bool.{true, false, not, ◌||◌, and-true, or-true, or-false}
use mathlib.Core.Logic.{⊎_elim}
use mathlib.Core.List.{[], ◌∷◌}
use native.Mathlib.Omega.{arith}
use lib.Dec.{ltb, eqb}
use lib.ListN.{length, take, get_or}
use borrow.Author.Tests.{ltb-true, ltb-false, lt-ltb, le-ltb}
use Rattle.format.specs.Bytes.{Bytes, any, semicolon, space, begins, has, up_to, split}
use Rattle.format.specs.Characters.{is_utf8, trim}
use Rattle.format.specs.ReadingRfc.{misplaced}
use Rattle.format.specs.declared.Manner.{Manner}
use Rattle.format.specs.declared.Manner.TheVariants.{Source, Rfc}
use Rattle.format.proofs.Lists.{bcase, clash}
use Rattle.format.proofs.Splitting.SplitUtf8.{up_to_utf8}
use Rattle.octets.proofs.Find.{found_has}
use Rattle.read_header_line.specs.HeaderLine.{params_by, misplaced_by, space_by}
use Rattle.read_header_line.proofs.Parting.{first_is}

-- 28, by the place of the first space and the first byte.
module _ (right : Bytes) (at : ℕ) (found : at ≡ length (up_to space right)) where
  pub no_space : length right ≤ at → misplaced right ≡ true
  unfolding misplaced
  no_space h = rw (found_has space right at found ∙ le-ltb at (length right) h) (or-true (not (begins (space ∷ []) right || begins (semicolon ∷ []) right)))

  pub first_decides : at < length right → misplaced right ≡ not (eqb space (get_or right 0 0) || eqb semicolon (get_or right 0 0))
  unfolding misplaced begins any
  first_decides h = go right (found_has space right at found ∙ lt-ltb at (length right) h)
    where
      go : (s : Bytes) → has space s ≡ true
          → (not (begins (space ∷ []) s || begins (semicolon ∷ []) s) || not (has space s)) ≡ not (eqb space (get_or s 0 0) || eqb semicolon (get_or s 0 0))
      go [] e = clash e refl
      go (b ∷ s) e = rw (e, and-true (eqb space b), and-true (eqb semicolon b)) (or-false (not (eqb space b || eqb semicolon b)))

  -- where it is not due, a space is there
  pub space_there : misplaced right ≡ false → at < length right
  space_there h =
      ⊎_elim (λ e. ltb-true at (length right) e) (λ e. clash (no_space (ltb-false at (length right) e)) h) (bcase (ltb at (length right)))

-- by either reading: where 28 is not due, what the second reading parts at is there
pub parted_there : (r : Manner) (right : Bytes) (at : ℕ) → at ≡ space_by r right → misplaced_by r right ≡ false → r ≡ Rfc → at < length right
parted_there r right at found h e =
    space_there right at (found ∙ ap (λ (q : Manner). space_by q right) e) (sym (ap (λ (q : Manner). misplaced_by q right) e) ∙ h)

-- the text that has the parameters is UTF-8
pub params_utf8 : (r : Manner) (left right : Bytes) → is_utf8 left ≡ true → is_utf8 right ≡ true → is_utf8 (params_by r left right) ≡ true
params_utf8 Source left right u v = u
params_utf8 Rfc left right u v = up_to_utf8 space right (omega arith) v

-- by the first reading it stands left of the colon
pub stop_is : (r : Manner) (left right front : Bytes) (stop : ℕ) → front ≡ params_by r left right → stop ≡ length (up_to semicolon front)
    → r ≡ Source → stop ≡ length (up_to semicolon left)
stop_is r left right front stop e s h =
    s ∙ ap (λ (t : Bytes). length (up_to semicolon t)) (e ∙ ap (λ (q : Manner). params_by q left right) h)

-- the name stands before the first `;`
pub name_is : (left : Bytes) (stop : ℕ) (name : Bytes) → stop ≡ length (up_to semicolon left) → name ≡ trim (take stop left)
    → name ≡ trim (split (semicolon ∷ []) left).first
name_is left stop name found e = e ∙ ap trim (sym (first_is left stop found))
