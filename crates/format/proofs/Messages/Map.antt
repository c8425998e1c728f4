-- The one list of headers is document 01's map from names to lists: a list by ascending name is determined by its lists for each
-- name, insert appends to its name's list, and without takes that list away. They hold for any key. Assumes nothing.
use Prim.Native.Nat.{ℕ}
use mathlib.Core.Path.{◌≡◌, refl, sym, ap, ◌∙◌}
use mathlib.Core.Bool.{true, false, not}
use mathlib.Core.Logic.{⊎_elim}
use mathlib.Core.List.{List, [], ◌∷◌, ◌++◌}
use native.Mathlib.Omega.{arith}
use borrow.Author.Tests.{not-true}
use Rattle.format.specs.Bytes.{Bytes, all, same, before}
use Rattle.format.specs.Message.{Header, name_of, insert, without, only, ascending}
use Rattle.format.proofs.Lists.{bcase, clash, all_head, all_tail, all_cons, all_map, same_eq, same_refl}
use Rattle.format.proofs.Messages.Order.{before_irreflexive, before_total}
use Rattle.format.proofs.Messages.Keyed.{insert_front, insert_behind, without_same, without_other, only_same, only_other, without_none, ascending_later, ascending_rest}

-- two equal lists, an empty and a longer one
cons_nil : {A P : Type 0} (x : A) (xs : List A) → x ∷ xs ≡ [] → P
cons_nil x xs h =
    let z : ◌≡◌ {A = ℕ} 0 1 = cc in
    absurd (omega arith)

-- another name than one that is the same as a third is not the same as that
same_other : (k n t : Bytes) → same k n ≡ false → same n t ≡ true → same k t ≡ false
same_other k n t h e = sym (ap (same k) (same_eq n t e)) ∙ h

module _ {A : Type 0} (key : A → Bytes) where
  -- a list in which the name k does not stand has none of it
  pub only_none : (k : Bytes) (xs : List A) → all (λ y. not (same k (key y))) xs ≡ true → only key k xs ≡ []
  unfolding only
  only_none k [] h = refl
  only_none k (y ∷ ys) h =
      rw (not-true (same k (key y)) (all_head (λ y. not (same k (key y))) y ys h)) (only_none k ys (all_tail (λ y. not (same k (key y))) y ys h))

  -- a name before the first of an ascending list does not stand in it
  pub only_before : (k : Bytes) (y : A) (ys : List A) → before k (key y) ≡ true → ascending key (y ∷ ys) ≡ true → only key k (y ∷ ys) ≡ []
  only_before k y ys e h =
      only_none k (y ∷ ys)
      (all_map (λ z. not (before (key z) (key y))) (λ z. not (same k (key z))) other (y ∷ ys)
      (all_cons (λ z. not (before (key z) (key y))) y ys (ap not (before_irreflexive (key y))) (ascending_later key y ys h)))
    where
      other : (z : A) → not (before (key z) (key y)) ≡ true → not (same k (key z)) ≡ true
      other z g =
          ⊎_elim
          (λ s. clash (sym (ap (λ t. before t (key y)) (same_eq k (key z) s)) ∙ e) (not-true (before (key z) (key y)) g))
          (λ s. ap not s)
          (bcase (same k (key z)))

  -- a new one goes behind those of its name, and the lists of other names stay
  pub only_insert_same : (x : A) (xs : List A) → ascending key xs ≡ true → only key (key x) (insert key x xs) ≡ only key (key x) xs ++ (x ∷ [])
  unfolding insert only
  only_insert_same x [] h = rw (same_refl (key x)) refl
  only_insert_same x (y ∷ ys) h = ⊎_elim front (in_front (only_insert_same x ys (ascending_rest key y ys h))) (bcase (before (key x) (key y)))
    where
      front : before (key x) (key y) ≡ true → only key (key x) (insert key x (y ∷ ys)) ≡ only key (key x) (y ∷ ys) ++ (x ∷ [])
      front e =
          ap (only key (key x)) (insert_front key x y ys e)
          ∙ only_same key (key x) x (y ∷ ys) (same_refl (key x))
          ∙ rw (only_before (key x) y ys e h) refl

      in_front : only key (key x) (insert key x ys) ≡ only key (key x) ys ++ (x ∷ []) → before (key x) (key y) ≡ false
          → only key (key x) (insert key x (y ∷ ys)) ≡ only key (key x) (y ∷ ys) ++ (x ∷ [])
      in_front ih e =
          ap (only key (key x)) (insert_behind key x y ys e)
          ∙ ⊎_elim (λ s. rw s (ap (λ l. y ∷ l) ih)) (λ s. rw s ih) (bcase (same (key x) (key y)))

  pub only_insert_other : (k : Bytes) (x : A) (xs : List A) → same k (key x) ≡ false → only key k (insert key x xs) ≡ only key k xs
  unfolding insert only
  only_insert_other k x [] h = rw h refl
  only_insert_other k x (y ∷ ys) h = ⊎_elim front (in_front (only_insert_other k x ys h)) (bcase (before (key x) (key y)))
    where
      front : before (key x) (key y) ≡ true → only key k (insert key x (y ∷ ys)) ≡ only key k (y ∷ ys)
      front e = ap (only key k) (insert_front key x y ys e) ∙ only_other key k x (y ∷ ys) h

      in_front : only key k (insert key x ys) ≡ only key k ys → before (key x) (key y) ≡ false
          → only key k (insert key x (y ∷ ys)) ≡ only key k (y ∷ ys)
      in_front ih e =
          ap (only key k) (insert_behind key x y ys e)
          ∙ ⊎_elim (λ s. rw s (ap (λ l. y ∷ l) ih)) (λ s. rw s ih) (bcase (same k (key y)))

  pub only_without_same : (k : Bytes) (xs : List A) → only key k (without key k xs) ≡ []
  only_without_same k xs = only_none k (without key k xs) (without_none key k xs)

  pub only_without_other : (k n : Bytes) (xs : List A) → same k n ≡ false → only key k (without key n xs) ≡ only key k xs
  unfolding without only
  only_without_other k n [] h = refl
  only_without_other k n (y ∷ ys) h =
      let ih = only_without_other k n ys h in
      ⊎_elim
      (λ e. ap (only key k) (without_same key n y ys e) ∙ ih ∙ sym (only_other key k y ys (same_other k n (key y) h e)))
      (λ e. ap (only key k) (without_other key n y ys e) ∙ ⊎_elim (λ s. rw s (ap (λ l. y ∷ l) ih)) (λ s. rw s ih) (bcase (same k (key y))))
      (bcase (same n (key y)))

  -- where the first of a list comes before the first of another, the two have other lists for its name
  first_before : {P : Type 0} (x y : A) (xs ys : List A) → ascending key (y ∷ ys) ≡ true → only key (key x) (x ∷ xs) ≡ only key (key x) (y ∷ ys)
      → before (key x) (key y) ≡ true → P
  first_before x y xs ys h f e =
      cons_nil x (only key (key x) xs) (sym (only_same key (key x) x xs (same_refl (key x))) ∙ f ∙ only_before (key x) y ys e h)

  -- behind equal first elements the lists for each name are equal too
  rest_same : (x : A) (xs ys : List A) (n : Bytes) → only key n (x ∷ xs) ≡ only key n (x ∷ ys) → only key n xs ≡ only key n ys
  rest_same x xs ys n f = ⊎_elim there other (bcase (same n (key x)))
    where
      there : same n (key x) ≡ true → only key n xs ≡ only key n ys
      there e =
          let p = only_same key n x xs e in
          let q = only_same key n x ys e in
          cc

      other : same n (key x) ≡ false → only key n xs ≡ only key n ys
      other e = sym (only_other key n x xs e) ∙ f ∙ only_other key n x ys e

  -- the first elements are equal: neither name is before the other, and each is the first of its name's list
  first_same : (x y : A) (xs ys : List A) → ascending key (x ∷ xs) ≡ true → ascending key (y ∷ ys) ≡ true
      → ((n : Bytes) → only key n (x ∷ xs) ≡ only key n (y ∷ ys)) → x ≡ y
  first_same x y xs ys h k f =
      let a = ⊎_elim (first_before x y xs ys k (f (key x))) (λ e. e) (bcase (before (key x) (key y))) in
      let b = ⊎_elim (first_before y x ys xs h (sym (f (key y)))) (λ e. e) (bcase (before (key y) (key x))) in
      let n = before_total (key x) (key y) a b in
      let p = only_same key (key x) x xs (same_refl (key x)) in
      let q = only_same key (key x) y ys (sym (ap (same (key x)) n) ∙ same_refl (key x)) in
      let r = f (key x) in
      cc

  pub unique_by : (xs ys : List A) → ascending key xs ≡ true → ascending key ys ≡ true
      → ((n : Bytes) → only key n xs ≡ only key n ys) → xs ≡ ys
  unfolding only
  unique_by [] [] h k f = refl
  unique_by [] (y ∷ ys) h k f = cons_nil y (only key (key y) ys) (sym (only_same key (key y) y ys (same_refl (key y))) ∙ sym (f (key y)))
  unique_by (x ∷ xs) [] h k f = cons_nil x (only key (key x) xs) (sym (only_same key (key x) x xs (same_refl (key x))) ∙ f (key x))
  unique_by (x ∷ xs) (y ∷ ys) h k f =
      let e = first_same x y xs ys h k f in
      let rest : (n : Bytes) → only key n xs ≡ only key n ys = λ n. rest_same x xs ys n (f n ∙ ap (λ z. only key n (z ∷ ys)) (sym e)) in
      rw (e, unique_by xs ys (ascending_rest key x xs h) (ascending_rest key y ys k) rest) refl

-- as it stands for the headers of a message
pub map_unique : (hs ks : List Header) → ascending name_of hs ≡ true → ascending name_of ks ≡ true
    → ((n : Bytes) → only name_of n hs ≡ only name_of n ks) → hs ≡ ks
map_unique hs ks h k f = unique_by name_of hs ks h k f
