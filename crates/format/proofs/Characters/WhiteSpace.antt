-- Document 01, "Characters": the 25 white-space numbers are the ranges that the document lists. The lists agree by computation;
-- that a number is among the numbers of ranges exactly when it is within one of them is one law over any ranges. What holds of the 25 numbers
-- holds of every white-space character. Assumes nothing.
use Prim.Native.Nat.{ℕ, zero, suc, ◌+◌, ◌-◌, ◌≤◌, ◌<◌}
use mathlib.Core.Path.{◌≡◌, refl, sym, ap, ◌∙◌}
use mathlib.Core.Bool.{Bool, true, false, ◌||◌, or_assoc, false≢true}
use mathlib.Core.Logic.{⊎_elim}
use mathlib.Core.List.{List, [], ◌∷◌, ◌++◌}
use native.Mathlib.Omega.{arith}
use lib.Dec.{eqb}
use lib.ListN.{length}
use borrow.Author.Tests.{eqb-true, eqb-false}
use Rattle.format.specs.Bytes.{Bytes, all, any}
use Rattle.format.specs.Characters.{Range, within, well_formed, code_point, white_space, white_ranges, is_white}
use Rattle.format.proofs.Lists.{bcase, and_right, all_head, all_tail}
use Rattle.format.proofs.Characters.Table.{within_low, within_high, within_intro}

-- k numbers from a on
unfoldable pub up_from : ℕ → ℕ → List ℕ
up_from zero a = []
up_from (suc k) a = a ∷ up_from k (a + 1)

-- the numbers of the ranges, one range after another
unfoldable pub listed : List Range → List ℕ
listed [] = []
listed (r ∷ rs) = up_from (r.last + 1 - r.first) r.first ++ listed rs

pub white_space_ranges : listed white_ranges ≡ white_space
unfolding listed up_from
white_space_ranges = refl

pub white_count : length white_space ≡ 25
white_count = refl

any_append : (p : ℕ → Bool) (xs ys : List ℕ) → any p (xs ++ ys) ≡ (any p xs || any p ys)
unfolding any
any_append p [] ys = refl
any_append p (x ∷ xs) ys = rw (any_append p xs ys) (sym (or_assoc (p x) (any p xs) (any p ys)))

-- a number among k numbers from a on lies there
among_low : (n k a : ℕ) → any (eqb n) (up_from k a) ≡ true → (a ≤ n) × (n < a + k)
unfolding any up_from
among_low n zero a h = absurd (false≢true h)
among_low n (suc k) a h =
    ⊎_elim
    (λ e. omega (arith, eqb-true n a e))
    (λ e. let i = among_low n k (a + 1) (rw e at h) in omega arith)
    (bcase (eqb n a))

-- and a number that lies there is among them
among_in : (n k a : ℕ) → a ≤ n → n < a + k → any (eqb n) (up_from k a) ≡ true
unfolding any up_from
among_in n zero a h i = absurd (omega arith)
among_in n (suc k) a h i =
    ⊎_elim
    (λ e. rw e refl)
    (λ e. let ne : a < n = omega (arith, eqb-false n a e) in rw e (among_in n k (a + 1) (omega arith) (omega arith)))
    (bcase (eqb n a))

-- two tests that pass together are the same
both : (a b : Bool) → (a ≡ true → b ≡ true) → (b ≡ true → a ≡ true) → a ≡ b
both true b f g = sym (f refl)
both false true f g = g refl
both false false f g = refl

among_within : (n : ℕ) (r : Range) → any (eqb n) (up_from (r.last + 1 - r.first) r.first) ≡ within n r
among_within n r =
    both (any (eqb n) (up_from (r.last + 1 - r.first) r.first)) (within n r)
    (λ h. let i = among_low n (r.last + 1 - r.first) r.first h in within_intro n r (omega arith) (omega arith))
    (λ h. among_in n (r.last + 1 - r.first) r.first (within_low n r h) (omega (arith, within_low n r h, within_high n r h)))

-- a number is among the numbers of ranges exactly when it is within one of them
pub listed_within : (n : ℕ) (rs : List Range) → any (eqb n) (listed rs) ≡ any (within n) rs
unfolding any listed
listed_within n [] = refl
listed_within n (r ∷ rs) =
    any_append (eqb n) (up_from (r.last + 1 - r.first) r.first) (listed rs) ∙ rw (among_within n r, listed_within n rs) refl

pub white_within : (n : ℕ) → any (eqb n) white_space ≡ any (within n) white_ranges
white_within n = rw (← white_space_ranges) (listed_within n white_ranges)

-- what holds of every number of a list holds of a number among them
among_all : (q : ℕ → Bool) (n : ℕ) (ns : List ℕ) → all q ns ≡ true → any (eqb n) ns ≡ true → q n ≡ true
unfolding any
among_all q n [] h i = absurd (false≢true i)
among_all q n (m ∷ ns) h i =
    ⊎_elim
    (λ e. ap q (eqb-true n m e) ∙ all_head q m ns h)
    (λ e. among_all q n ns (all_tail q m ns h) (rw e at i))
    (bcase (eqb n m))

pub white_all : (q : ℕ → Bool) → all q white_space ≡ true → (g : Bytes) → is_white g ≡ true → q (code_point g) ≡ true
unfolding is_white
white_all q h g w = among_all q (code_point g) white_space h (and_right (well_formed g) (any (eqb (code_point g)) white_space) w)
