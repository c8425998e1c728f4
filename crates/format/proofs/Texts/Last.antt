-- The end of a list in order: an element that all others come before goes there, and takes none of them away. Assumes nothing.
use mathlib.Core.Path.{◌≡◌, refl, sym, ap, ◌∙◌}
use mathlib.Core.Bool.{Bool, true, false, not}
use mathlib.Core.Logic.{⊎_elim}
use mathlib.Core.List.{List, [], ◌∷◌, ◌++◌}
use borrow.Author.Tests.{not-true}
use Rattle.format.specs.Bytes.{Bytes, all, same, before}
use Rattle.format.specs.Message.{Entry, entry_name, insert, without, ascending, increasing, put}
use Rattle.format.proofs.Lists.{bcase, clash, and_right, all_append, all_head, all_tail, all_cons, all_map, same_eq}
use Rattle.format.proofs.Messages.Order.{before_asym, before_irreflexive}
use Rattle.format.proofs.Messages.Keyed.{ascending_later, ascending_rest, increasing_later, increasing_rest}

-- what holds of every element holds of one in the middle
all_at : {A : Type 0} (p : A → Bool) (xs : List A) (y : A) (ys : List A) → all p (xs ++ (y ∷ ys)) ≡ true → p y ≡ true
all_at p xs y ys h = all_head p y ys (and_right (all p xs) (all p (y ∷ ys)) (sym (all_append p xs (y ∷ ys)) ∙ h))

before_other : (s t : Bytes) → before s t ≡ true → same t s ≡ false
before_other s t h = ⊎_elim (λ e. clash h (ap (before s) (same_eq t s e) ∙ before_irreflexive s)) (λ e. e) (bcase (same t s))

module _ {A : Type 0} (key : A → Bytes) where
  -- what does not come before any of a list goes to its end
  pub insert_last : (y : A) (xs : List A) → all (λ x. not (before (key y) (key x))) xs ≡ true → insert key y xs ≡ xs ++ (y ∷ [])
  unfolding insert
  insert_last y [] h = refl
  insert_last y (x ∷ xs) h =
      rw (
        not-true (before (key y) (key x)) (all_head (λ x. not (before (key y) (key x))) x xs h),
        insert_last y xs (all_tail (λ x. not (before (key y) (key x))) x xs h),
      ) refl

  -- in an ascending list no element comes before an earlier one
  pub ascending_last : (xs : List A) (y : A) (ys : List A) → ascending key (xs ++ (y ∷ ys)) ≡ true → all (λ x. not (before (key y) (key x))) xs ≡ true
  unfolding all
  ascending_last [] y ys h = refl
  ascending_last (x ∷ xs) y ys h =
      all_cons (λ x. not (before (key y) (key x))) x xs
      (all_at (λ z. not (before (key z) (key x))) xs y ys (ascending_later key x (xs ++ (y ∷ ys)) h))
      (ascending_last xs y ys (ascending_rest key x (xs ++ (y ∷ ys)) h))

  -- in an increasing list each comes before all later ones
  pub increasing_last : (xs : List A) (y : A) (ys : List A) → increasing key (xs ++ (y ∷ ys)) ≡ true → all (λ x. before (key x) (key y)) xs ≡ true
  unfolding all
  increasing_last [] y ys h = refl
  increasing_last (x ∷ xs) y ys h =
      all_cons (λ x. before (key x) (key y)) x xs
      (all_at (λ z. before (key x) (key z)) xs y ys (increasing_later key x (xs ++ (y ∷ ys)) h))
      (increasing_last xs y ys (increasing_rest key x (xs ++ (y ∷ ys)) h))

  -- nothing is taken away where the name is not there
  pub without_last : (y : A) (xs : List A) → all (λ x. before (key x) (key y)) xs ≡ true → without key (key y) xs ≡ xs
  unfolding without
  without_last y [] h = refl
  without_last y (x ∷ xs) h =
      rw (
        before_other (key x) (key y) (all_head (λ x. before (key x) (key y)) x xs h),
        without_last y xs (all_tail (λ x. before (key x) (key y)) x xs h),
      ) refl

-- a value set under a name behind all others goes to the end
pub put_last : (e : Entry) (es : List Entry) → all (λ x. before x.name e.name) es ≡ true → put e es ≡ es ++ (e ∷ [])
unfolding put
put_last e es h =
    rw (without_last entry_name e es h)
    (insert_last entry_name e es (all_map (λ x. before x.name e.name) (λ x. not (before e.name x.name)) (λ x k. ap not (before_asym x.name e.name k)) es h))
