-- Laws of the maps that run in byte order of their names: what insert, without and put keep. They hold for any key; that names
-- are in order is kept because byte order is total. Assumes nothing.
use Prim.Native.Nat.{ℕ, suc, ◌+◌, ◌≤◌}
use mathlib.Core.Path.{◌≡◌, refl, ap, ◌∙◌}
use mathlib.Core.Bool.{Bool, true, false, not}
use mathlib.Core.Logic.{⊎_elim}
use mathlib.Core.List.{List, [], ◌∷◌}
use native.Mathlib.Omega.{arith}
use lib.ListN.{length}
use borrow.Author.Tests.{not-true}
use Rattle.format.specs.Bytes.{Bytes, all, total, same, before}
use Rattle.format.specs.Message.{Entry, entry_name, insert, without, only, ascending, increasing, put, need_entry}
use Rattle.format.proofs.Lists.{bcase, clash, and_left, and_right, and_intro, all_head, all_tail, all_cons, all_map, same_refl}
use Rattle.format.proofs.Messages.Order.{before_total, before_asym, before_transitive, not_before_transitive}

module _ {A : Type 0} (key : A → Bytes) where
  -- One step of each, by what its test says.
  pub insert_front : (x y : A) (ys : List A) → before (key x) (key y) ≡ true → insert key x (y ∷ ys) ≡ x ∷ y ∷ ys
  unfolding insert
  insert_front x y ys h = rw h refl

  pub insert_behind : (x y : A) (ys : List A) → before (key x) (key y) ≡ false → insert key x (y ∷ ys) ≡ y ∷ insert key x ys
  unfolding insert
  insert_behind x y ys h = rw h refl

  pub without_same : (k : Bytes) (y : A) (ys : List A) → same k (key y) ≡ true → without key k (y ∷ ys) ≡ without key k ys
  unfolding without
  without_same k y ys h = rw h refl

  pub without_other : (k : Bytes) (y : A) (ys : List A) → same k (key y) ≡ false → without key k (y ∷ ys) ≡ y ∷ without key k ys
  unfolding without
  without_other k y ys h = rw h refl

  pub only_same : (k : Bytes) (y : A) (ys : List A) → same k (key y) ≡ true → only key k (y ∷ ys) ≡ y ∷ only key k ys
  unfolding only
  only_same k y ys h = rw h refl

  pub only_other : (k : Bytes) (y : A) (ys : List A) → same k (key y) ≡ false → only key k (y ∷ ys) ≡ only key k ys
  unfolding only
  only_other k y ys h = rw h refl

  -- tests of all elements, counts and sums
  pub all_insert : (p : A → Bool) (x : A) (xs : List A) → p x ≡ true → all p xs ≡ true → all p (insert key x xs) ≡ true
  unfolding insert
  all_insert p x [] h k = all_cons p x [] h k
  all_insert p x (y ∷ ys) h k =
      ⊎_elim
      (λ e. rw e (all_cons p x (y ∷ ys) h k))
      (λ e. rw e (all_cons p y (insert key x ys) (all_head p y ys k) (all_insert p x ys h (all_tail p y ys k))))
      (bcase (before (key x) (key y)))

  -- and the other way: what all of a list with x inserted pass, x and the others pass
  pub all_inserted : (p : A → Bool) (x : A) (xs : List A) → all p (insert key x xs) ≡ true → (p x ≡ true) × (all p xs ≡ true)
  unfolding insert all
  all_inserted p x [] h = (all_head p x [] h, refl)
  all_inserted p x (y ∷ ys) h = ⊎_elim front (in_front (all_inserted p x ys)) (bcase (before (key x) (key y)))
    where
      front : before (key x) (key y) ≡ true → (p x ≡ true) × (all p (y ∷ ys) ≡ true)
      front e =
          let k = rw e at h in
          (all_head p x (y ∷ ys) k, all_tail p x (y ∷ ys) k)

      in_front : (all p (insert key x ys) ≡ true → (p x ≡ true) × (all p ys ≡ true)) → before (key x) (key y) ≡ false
          → (p x ≡ true) × (all p (y ∷ ys) ≡ true)
      in_front ih e =
          let k = rw e at h in
          let r = ih (all_tail p y (insert key x ys) k) in
          (r.0, all_cons p y ys (all_head p y (insert key x ys) k) r.1)

  pub all_without : (p : A → Bool) (k : Bytes) (xs : List A) → all p xs ≡ true → all p (without key k xs) ≡ true
  unfolding without
  all_without p k [] h = h
  all_without p k (y ∷ ys) h =
      ⊎_elim
      (λ e. rw e (all_without p k ys (all_tail p y ys h)))
      (λ e. rw e (all_cons p y (without key k ys) (all_head p y ys h) (all_without p k ys (all_tail p y ys h))))
      (bcase (same k (key y)))

  -- none of the name is left
  pub without_none : (k : Bytes) (xs : List A) → all (λ y. not (same k (key y))) (without key k xs) ≡ true
  unfolding without all
  without_none k [] = refl
  without_none k (y ∷ ys) =
      ⊎_elim
      (λ e. rw e (without_none k ys))
      (λ e. rw e (all_cons (λ y. not (same k (key y))) y (without key k ys) (ap not e) (without_none k ys)))
      (bcase (same k (key y)))

  pub length_insert : (x : A) (xs : List A) → length (insert key x xs) ≡ suc (length xs)
  unfolding insert
  length_insert x [] = refl
  length_insert x (y ∷ ys) =
      ⊎_elim (λ e. rw e refl) (λ e. rw e (ap suc (length_insert x ys))) (bcase (before (key x) (key y)))

  pub length_without : (k : Bytes) (xs : List A) → length (without key k xs) ≤ length xs
  unfolding without
  length_without k [] = omega arith
  length_without k (y ∷ ys) =
      ⊎_elim
      (λ e. rw e (omega (arith, length_without k ys)))
      (λ e. rw e (omega (arith, length_without k ys)))
      (bcase (same k (key y)))

  pub total_insert : (f : A → ℕ) (x : A) (xs : List A) → total f (insert key x xs) ≡ f x + total f xs
  unfolding insert total
  total_insert f x [] = refl
  total_insert f x (y ∷ ys) =
      ⊎_elim (λ e. rw e refl) (λ e. rw e (omega (arith, total_insert f x ys))) (bcase (before (key x) (key y)))

  pub total_without : (f : A → ℕ) (k : Bytes) (xs : List A) → total f (without key k xs) ≤ total f xs
  unfolding without total
  total_without f k [] = omega arith
  total_without f k (y ∷ ys) =
      ⊎_elim
      (λ e. rw e (omega (arith, total_without f k ys)))
      (λ e. rw e (omega (arith, total_without f k ys)))
      (bcase (same k (key y)))

  -- Order. What stands in a list of ordered names, element by element:
  pub ascending_cons : (x : A) (xs : List A) → all (λ y. not (before (key y) (key x))) xs ≡ true → ascending key xs ≡ true
      → ascending key (x ∷ xs) ≡ true
  unfolding ascending
  ascending_cons x xs h k = and_intro (all (λ y. not (before (key y) (key x))) xs) (ascending key xs) h k

  pub ascending_later : (x : A) (xs : List A) → ascending key (x ∷ xs) ≡ true → all (λ y. not (before (key y) (key x))) xs ≡ true
  unfolding ascending
  ascending_later x xs h = and_left (all (λ y. not (before (key y) (key x))) xs) (ascending key xs) h

  pub ascending_rest : (x : A) (xs : List A) → ascending key (x ∷ xs) ≡ true → ascending key xs ≡ true
  unfolding ascending
  ascending_rest x xs h = and_right (all (λ y. not (before (key y) (key x))) xs) (ascending key xs) h

  pub increasing_cons : (x : A) (xs : List A) → all (λ y. before (key x) (key y)) xs ≡ true → increasing key xs ≡ true
      → increasing key (x ∷ xs) ≡ true
  unfolding increasing
  increasing_cons x xs h k = and_intro (all (λ y. before (key x) (key y)) xs) (increasing key xs) h k

  pub increasing_later : (x : A) (xs : List A) → increasing key (x ∷ xs) ≡ true → all (λ y. before (key x) (key y)) xs ≡ true
  unfolding increasing
  increasing_later x xs h = and_left (all (λ y. before (key x) (key y)) xs) (increasing key xs) h

  pub increasing_rest : (x : A) (xs : List A) → increasing key (x ∷ xs) ≡ true → increasing key xs ≡ true
  unfolding increasing
  increasing_rest x xs h = and_right (all (λ y. before (key x) (key y)) xs) (increasing key xs) h

  ascending_front : (x y : A) (ys : List A) → before (key x) (key y) ≡ true → ascending key (y ∷ ys) ≡ true → ascending key (x ∷ y ∷ ys) ≡ true
  ascending_front x y ys e h =
      let a = before_asym (key x) (key y) e in
      let later =
      all_map
      (λ z. not (before (key z) (key y)))
      (λ z. not (before (key z) (key x)))
      (λ z g. ap not (not_before_transitive (key x) (key y) (key z) a (not-true (before (key z) (key y)) g)))
      ys
      (ascending_later y ys h)
      in
      ascending_cons x (y ∷ ys) (all_cons (λ z. not (before (key z) (key x))) y ys (ap not a) later) h

  pub ascending_insert : (x : A) (xs : List A) → ascending key xs ≡ true → ascending key (insert key x xs) ≡ true
  unfolding insert all
  ascending_insert x [] h = ascending_cons x [] refl h
  ascending_insert x (y ∷ ys) h =
      ⊎_elim
      (λ e. rw e (ascending_front x y ys e h))
      (λ e. rw e
      (ascending_cons y (insert key x ys)
      (all_insert (λ z. not (before (key z) (key y))) x ys (ap not e) (ascending_later y ys h))
      (ascending_insert x ys (ascending_rest y ys h))))
      (bcase (before (key x) (key y)))

  pub ascending_without : (k : Bytes) (xs : List A) → ascending key xs ≡ true → ascending key (without key k xs) ≡ true
  unfolding without
  ascending_without k [] h = h
  ascending_without k (y ∷ ys) h =
      ⊎_elim
      (λ e. rw e (ascending_without k ys (ascending_rest y ys h)))
      (λ e. rw e
      (ascending_cons y (without key k ys)
      (all_without (λ z. not (before (key z) (key y))) k ys (ascending_later y ys h))
      (ascending_without k ys (ascending_rest y ys h))))
      (bcase (same k (key y)))

  pub increasing_without : (k : Bytes) (xs : List A) → increasing key xs ≡ true → increasing key (without key k xs) ≡ true
  unfolding without
  increasing_without k [] h = h
  increasing_without k (y ∷ ys) h =
      ⊎_elim
      (λ e. rw e (increasing_without k ys (increasing_rest y ys h)))
      (λ e. rw e
      (increasing_cons y (without key k ys)
      (all_without (λ z. before (key y) (key z)) k ys (increasing_later y ys h))
      (increasing_without k ys (increasing_rest y ys h))))
      (bcase (same k (key y)))

  increasing_front : (x y : A) (ys : List A) → before (key x) (key y) ≡ true → increasing key (y ∷ ys) ≡ true → increasing key (x ∷ y ∷ ys) ≡ true
  increasing_front x y ys e h =
      let later =
      all_map
      (λ z. before (key y) (key z))
      (λ z. before (key x) (key z))
      (λ z g. before_transitive (key x) (key y) (key z) e g)
      ys
      (increasing_later y ys h)
      in
      increasing_cons x (y ∷ ys) (all_cons (λ z. before (key x) (key z)) y ys e later) h

  -- a name that is not before another, nor the same, is behind it
  in_front : (s t : Bytes) → before s t ≡ false → same s t ≡ false → before t s ≡ true
  in_front s t h k = ⊎_elim (λ e. e) (λ e. clash (ap (same s) (before_total t s e h) ∙ same_refl s) k) (bcase (before t s))

  -- increasing names stay so where a new one is inserted
  pub increasing_insert : (x : A) (xs : List A) → all (λ y. not (same (key x) (key y))) xs ≡ true → increasing key xs ≡ true
      → increasing key (insert key x xs) ≡ true
  unfolding insert all
  increasing_insert x [] n h = increasing_cons x [] refl h
  increasing_insert x (y ∷ ys) n h =
      let other = not-true (same (key x) (key y)) (all_head (λ y. not (same (key x) (key y))) y ys n) in
      ⊎_elim
      (λ e. rw e (increasing_front x y ys e h))
      (λ e. rw e
      (increasing_cons y (insert key x ys)
      (all_insert (λ z. before (key y) (key z)) x ys (in_front (key x) (key y) e other) (increasing_later y ys h))
      (increasing_insert x ys (all_tail (λ y. not (same (key x) (key y))) y ys n) (increasing_rest y ys h))))
      (bcase (before (key x) (key y)))

-- A value set in a map of parameters or content headers.
pub all_put : (p : Entry → Bool) (e : Entry) (es : List Entry) → p e ≡ true → all p es ≡ true → all p (put e es) ≡ true
unfolding put
all_put p e es h k = all_insert entry_name p e (without entry_name e.name es) h (all_without entry_name p e.name es k)

pub increasing_put : (e : Entry) (es : List Entry) → increasing entry_name es ≡ true → increasing entry_name (put e es) ≡ true
unfolding put
increasing_put e es h =
    increasing_insert entry_name e (without entry_name e.name es) (without_none entry_name e.name es) (increasing_without entry_name e.name es h)

pub length_put : (e : Entry) (es : List Entry) → length (put e es) ≤ suc (length es)
unfolding put
length_put e es = omega (arith, length_insert entry_name e (without entry_name e.name es), length_without entry_name e.name es)

pub total_put : (e : Entry) (es : List Entry) → total need_entry (put e es) ≤ need_entry e + total need_entry es
unfolding put
total_put e es =
    omega (arith, total_insert entry_name need_entry e (without entry_name e.name es), total_without entry_name need_entry e.name es)
