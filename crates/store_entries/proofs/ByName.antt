-- A list in the order of its names falls into the elements of names before k, those of the name k, and those of names behind it; so do
-- the list with an element inserted, and the list without those of the name. Assumes nothing.
use Rattle.std.specs.Prelude.{if◌then◌else◌}
use mathlib.Core.Path.{◌≡◌, refl, sym, ap, ◌∙◌}
use mathlib.Core.Bool.{Bool, true, false, not}
use mathlib.Core.List.{List, [], ◌∷◌, ◌++◌, append-nil, map}
use mathlib.Core.Logic.{⊎_elim}
use borrow.Author.Tests.{not-true}
use Rattle.format.specs.Bytes.{Bytes, all, same, before}
use Rattle.format.specs.Message.{insert, without, only, ascending}
use Rattle.format.proofs.Lists.{bcase, clash, all_head, all_tail, all_cons, all_map, same_eq, same_refl}
use Rattle.format.proofs.Messages.Order.{before_irreflexive, before_asym, before_total, not_before_transitive}
use Rattle.format.proofs.Messages.Keyed.{insert_front, insert_behind, without_same, without_other, only_same, only_other, ascending_later, ascending_rest}
use Rattle.store_entries.specs.Passing.{whilst, after}
use Rattle.store_entries.specs.Groups.{is_low, is_own, is_high, low, own, high}

-- the elements before the first that fails a test, and the others
pub after_on : {A : Type 0} (p : A → Bool) (x : A) (xs : List A) → p x ≡ true → after p (x ∷ xs) ≡ after p xs
unfolding after
after_on p x xs h = rw h refl

pub after_stop : {A : Type 0} (p : A → Bool) (x : A) (xs : List A) → p x ≡ false → after p (x ∷ xs) ≡ x ∷ xs
unfolding after
after_stop p x xs h = rw h refl

pub whilst_after : {A : Type 0} (p : A → Bool) (xs : List A) → xs ≡ whilst p xs ++ after p xs
unfolding whilst after
whilst_after p [] = refl
whilst_after p (x ∷ xs) = branch (p x) (whilst_after p xs)
  where
    branch : (t : Bool) → xs ≡ whilst p xs ++ after p xs
        → x ∷ xs ≡ (if t then x ∷ whilst p xs else []) ++ (if t then after p xs else x ∷ xs)
    branch true h = ap (λ ys. x ∷ ys) h
    branch false h = refl

pub whilst_all : {A : Type 0} (p : A → Bool) (xs : List A) → all p (whilst p xs) ≡ true
unfolding whilst all
whilst_all p [] = refl
whilst_all p (x ∷ xs) = branch (p x) refl (whilst_all p xs)
  where
    branch : (t : Bool) → t ≡ p x → all p (whilst p xs) ≡ true → all p (if t then x ∷ whilst p xs else []) ≡ true
    branch true e h = all_cons p x (whilst p xs) (sym e) h
    branch false e h = refl

-- where every element fails the test
after_none : {A : Type 0} (p : A → Bool) (xs : List A) → all (λ y. not (p y)) xs ≡ true → after p xs ≡ xs
unfolding after
after_none p [] h = refl
after_none p (x ∷ xs) h = rw (not-true (p x) (all_head (λ y. not (p y)) x xs h)) refl

-- over a list of images
pub whilst_map : {A B : Type 0} (p : B → Bool) (f : A → B) (xs : List A) → whilst p (map f xs) ≡ map f (whilst (λ x. p (f x)) xs)
unfolding whilst
whilst_map p f [] = refl
whilst_map p f (x ∷ xs) = branch (p (f x)) (whilst_map p f xs)
  where
    branch : (t : Bool) → whilst p (map f xs) ≡ map f (whilst (λ x. p (f x)) xs)
        → (if t then f x ∷ whilst p (map f xs) else []) ≡ map f (if t then x ∷ whilst (λ x. p (f x)) xs else [])
    branch true h = ap (λ ys. f x ∷ ys) h
    branch false h = refl

pub after_map : {A B : Type 0} (p : B → Bool) (f : A → B) (xs : List A) → after p (map f xs) ≡ map f (after (λ x. p (f x)) xs)
unfolding after
after_map p f [] = refl
after_map p f (x ∷ xs) = branch (p (f x)) (after_map p f xs)
  where
    branch : (t : Bool) → after p (map f xs) ≡ map f (after (λ x. p (f x)) xs)
        → (if t then after p (map f xs) else f x ∷ map f xs) ≡ map f (if t then after (λ x. p (f x)) xs else x ∷ xs)
    branch true h = h
    branch false h = refl

module _ {A : Type 0} (key : A → Bytes) (k : Bytes) where
  pub parts : (xs : List A) → xs ≡ low key k xs ++ (own key k xs ++ high key k xs)
  parts xs = whilst_after (is_low key k) xs ∙ ap (λ ys. low key k xs ++ ys) (whilst_after (is_own key k) (after (is_low key k) xs))

  not_before : (s t : Bytes) → before s t ≡ false → not (before s t) ≡ true
  not_before s t h = rw h refl

  not_same : (s t : Bytes) → same s t ≡ false → not (same s t) ≡ true
  not_same s t h = rw h refl

  own_high : (y : A) → (is_low key k) y ≡ false → (is_own key k) y ≡ false → (is_high key k) y ≡ true
  own_high y l o =
      ⊎_elim (λ h. h) (λ h. clash (ap (same k) (before_total (key y) k l h) ∙ same_refl k) o) (bcase (before k (key y)))

  -- behind an element that is not before k no element is
  later_not_low : (x : A) (xs : List A) → (is_low key k) x ≡ false → all (λ y. not (before (key y) (key x))) xs ≡ true → all (λ y. not ((is_low key k) y)) xs ≡ true
  later_not_low x xs l h =
      all_map (λ y. not (before (key y) (key x))) (λ y. not ((is_low key k) y))
      (λ y f. not_before (key y) k (not_before_transitive k (key x) (key y) l (not-true (before (key y) (key x)) f))) xs h

  -- and behind one that is behind k each is
  later_high : (x : A) (xs : List A) → (is_high key k) x ≡ true → all (λ y. not (before (key y) (key x))) xs ≡ true → all (is_high key k) xs ≡ true
  later_high x xs h a =
      all_map (λ y. not (before (key y) (key x))) (is_high key k)
      (λ y f. ⊎_elim (λ e. e) (λ e. clash h (not_before_transitive (key x) (key y) k (not-true (before (key y) (key x)) f) e)) (bcase (before k (key y)))) xs a

  -- in a list in order, what stands behind those of the name k is behind k
  own_then_high : (xs : List A) → ascending key xs ≡ true → all (λ y. not ((is_low key k) y)) xs ≡ true → all (is_high key k) (after (is_own key k) xs) ≡ true
  unfolding all after
  own_then_high [] a n = refl
  own_then_high (x ∷ xs) a n =
      branch ((is_own key k) x) refl (own_then_high xs (ascending_rest key x xs a) (all_tail (λ y. not ((is_low key k) y)) x xs n))
    where
      branch : (t : Bool) → t ≡ (is_own key k) x → all (is_high key k) (after (is_own key k) xs) ≡ true → all (is_high key k) (if t then after (is_own key k) xs else x ∷ xs) ≡ true
      branch true e h = h
      branch false e h =
          let up = own_high x (not-true ((is_low key k) x) (all_head (λ y. not ((is_low key k) y)) x xs n)) (sym e) in
          all_cons (is_high key k) x xs up (later_high x xs up (ascending_later key x xs a))

  pub high_all : (xs : List A) → ascending key xs ≡ true → all (is_high key k) (high key k xs) ≡ true
  unfolding after all
  high_all [] a = own_then_high [] a refl
  high_all (x ∷ xs) a = branch ((is_low key k) x) refl (high_all xs (ascending_rest key x xs a))
    where
      branch : (t : Bool) → t ≡ (is_low key k) x → all (is_high key k) (high key k xs) ≡ true → all (is_high key k) (after (is_own key k) (if t then after (is_low key k) xs else x ∷ xs)) ≡ true
      branch true e h = h
      branch false e h =
          own_then_high (x ∷ xs) a (all_cons (λ y. not ((is_low key k) y)) x xs (rw (sym e) refl) (later_not_low x xs (sym e) (ascending_later key x xs a)))

  -- how insert, without and only go over such parts
  insert_past : (x : A) (ys zs : List A) → all (λ y. not (before (key x) (key y))) ys ≡ true → insert key x (ys ++ zs) ≡ ys ++ insert key x zs
  insert_past x [] zs h = refl
  insert_past x (y ∷ ys) zs h =
      insert_behind key x y (ys ++ zs) (not-true (before (key x) (key y)) (all_head (λ z. not (before (key x) (key z))) y ys h))
      ∙ ap (λ l. y ∷ l) (insert_past x ys zs (all_tail (λ z. not (before (key x) (key z))) y ys h))

  insert_first : (x : A) (zs : List A) → all (λ z. before (key x) (key z)) zs ≡ true → insert key x zs ≡ x ∷ zs
  unfolding insert
  insert_first x [] h = refl
  insert_first x (z ∷ zs) h = insert_front key x z zs (all_head (λ y. before (key x) (key y)) z zs h)

  without_past : (ys zs : List A) → all (λ y. not ((is_own key k) y)) ys ≡ true → without key k (ys ++ zs) ≡ ys ++ without key k zs
  without_past [] zs h = refl
  without_past (y ∷ ys) zs h =
      without_other key k y (ys ++ zs) (not-true ((is_own key k) y) (all_head (λ y. not ((is_own key k) y)) y ys h))
      ∙ ap (λ l. y ∷ l) (without_past ys zs (all_tail (λ y. not ((is_own key k) y)) y ys h))

  without_own : (ys zs : List A) → all (is_own key k) ys ≡ true → without key k (ys ++ zs) ≡ without key k zs
  without_own [] zs h = refl
  without_own (y ∷ ys) zs h = without_same key k y (ys ++ zs) (all_head (is_own key k) y ys h) ∙ without_own ys zs (all_tail (is_own key k) y ys h)

  only_past : (ys zs : List A) → all (λ y. not ((is_own key k) y)) ys ≡ true → only key k (ys ++ zs) ≡ only key k zs
  only_past [] zs h = refl
  only_past (y ∷ ys) zs h =
      only_other key k y (ys ++ zs) (not-true ((is_own key k) y) (all_head (λ y. not ((is_own key k) y)) y ys h)) ∙ only_past ys zs (all_tail (λ y. not ((is_own key k) y)) y ys h)

  only_own : (ys zs : List A) → all (is_own key k) ys ≡ true → only key k (ys ++ zs) ≡ ys ++ only key k zs
  only_own [] zs h = refl
  only_own (y ∷ ys) zs h =
      only_same key k y (ys ++ zs) (all_head (is_own key k) y ys h) ∙ ap (λ l. y ∷ l) (only_own ys zs (all_tail (is_own key k) y ys h))

  other_same : (s : Bytes) → before s k ≡ true → same k s ≡ false
  other_same s h =
      ⊎_elim (λ e. clash (ap (before s) (sym (same_eq k s e)) ∙ h) (before_irreflexive s)) (λ e. e) (bcase (same k s))

  low_other : (xs : List A) → all (is_low key k) xs ≡ true → all (λ y. not ((is_own key k) y)) xs ≡ true
  low_other xs h = all_map (is_low key k) (λ y. not ((is_own key k) y)) (λ y e. not_same k (key y) (other_same (key y) e)) xs h

  high_other : (xs : List A) → all (is_high key k) xs ≡ true → all (λ y. not ((is_own key k) y)) xs ≡ true
  high_other xs h = all_map (is_high key k) (λ y. not ((is_own key k) y)) (λ y e. not_same k (key y) (own_apart (key y) e)) xs h
    where
      own_apart : (s : Bytes) → before k s ≡ true → same k s ≡ false
      own_apart s e = ⊎_elim (λ f. clash (ap (before k) (same_eq k s f) ∙ e) (before_irreflexive k)) (λ f. f) (bcase (same k s))

  module _ (xs : List A) (a : ascending key xs ≡ true) where
    lows : all (is_low key k) (low key k xs) ≡ true
    lows = whilst_all (is_low key k) xs

    owns : all (is_own key k) (own key k xs) ≡ true
    owns = whilst_all (is_own key k) (after (is_low key k) xs)

    highs : all (is_high key k) (high key k xs) ≡ true
    highs = high_all xs a

    pub without_parts : without key k xs ≡ low key k xs ++ high key k xs
    unfolding without
    without_parts =
        ap (without key k) (parts xs)
        ∙ without_past (low key k xs) (own key k xs ++ high key k xs) (low_other (low key k xs) lows)
        ∙ ap (λ l. low key k xs ++ l)
        (without_own (own key k xs) (high key k xs) owns
        ∙ ap (without key k) (sym (append-nil (high key k xs)))
        ∙ without_past (high key k xs) [] (high_other (high key k xs) highs)
        ∙ append-nil (high key k xs))

    pub only_parts : only key k xs ≡ own key k xs
    unfolding only
    only_parts =
        ap (only key k) (parts xs)
        ∙ only_past (low key k xs) (own key k xs ++ high key k xs) (low_other (low key k xs) lows)
        ∙ only_own (own key k xs) (high key k xs) owns
        ∙ ap (λ l. own key k xs ++ l)
        (ap (only key k) (sym (append-nil (high key k xs))) ∙ only_past (high key k xs) [] (high_other (high key k xs) highs))
        ∙ append-nil (own key k xs)

    module _ (x : A) (named : key x ≡ k) where
      past_low : all (λ y. not (before (key x) (key y))) (low key k xs) ≡ true
      past_low =
          rw named (all_map (is_low key k) (λ y. not (before k (key y))) (λ y e. not_before k (key y) (before_asym (key y) k e)) (low key k xs) lows)

      past_own : all (λ y. not (before (key x) (key y))) (own key k xs) ≡ true
      past_own =
          rw named
          (all_map (is_own key k) (λ y. not (before k (key y)))
          (λ y e. not_before k (key y) (ap (before k) (sym (same_eq k (key y) e)) ∙ before_irreflexive k)) (own key k xs) owns)

      first_high : all (λ z. before (key x) (key z)) (high key k xs) ≡ true
      first_high = rw named highs

      pub insert_parts : insert key x xs ≡ low key k xs ++ (own key k xs ++ (x ∷ high key k xs))
      insert_parts =
          ap (insert key x) (parts xs)
          ∙ insert_past x (low key k xs) (own key k xs ++ high key k xs) past_low
          ∙ ap (λ l. low key k xs ++ l) (insert_past x (own key k xs) (high key k xs) past_own ∙ ap (λ l. own key k xs ++ l) (insert_first x (high key k xs) first_high))

      pub put_parts : insert key x (without key k xs) ≡ low key k xs ++ (x ∷ high key k xs)
      put_parts =
          ap (insert key x) without_parts
          ∙ insert_past x (low key k xs) (high key k xs) past_low
          ∙ ap (λ l. low key k xs ++ l) (insert_first x (high key k xs) first_high)
