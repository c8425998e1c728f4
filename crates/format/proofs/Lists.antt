-- Laws of tests and lists that every other proof of this crate leans on. Assumes nothing.
use Prim.Native.Nat.{ℕ, zero, suc, ◌+◌, ◌-◌, ◌≤◌, ◌<◌}
use mathlib.Core.Path.{◌≡◌, refl, sym, ◌∙◌}
use mathlib.Core.Bool.{Bool, true, false, ◌&&◌, ◌||◌, false≢true, and_assoc}
use mathlib.Core.Logic.{◌⊎◌, inl, inr, ⊎_elim}
use mathlib.Core.List.{List, [], ◌∷◌, ◌++◌, append_assoc}
use native.Mathlib.Omega.{arith}
use lib.Dec.{ltb, eqb}
use lib.ListN.{length, take, drop, get_or, length-append, length-drop}
use lib.Seq.{take_all}
use borrow.Author.Tests.{ltb-true, ltb-false, eqb-true, eq-eqb, ne_eqb}
use Rattle.format.specs.Bytes.{Bytes, all, total, texts, same}

-- a test passes or fails
pub bcase : (b : Bool) → (b ≡ true) ⊎ (b ≡ false)
bcase true = inl refl
bcase false = inr refl

-- a number is below another or not
pub below : (n k : ℕ) → (n < k) ⊎ (k ≤ n)
below n k = ⊎_elim (λ t. inl (ltb-true n k t)) (λ f. inr (ltb-false n k f)) (bcase (ltb n k))

-- a test does not both pass and fail
pub clash {ℓ} : {A : Type ℓ} {b : Bool} → b ≡ true → b ≡ false → A
clash p q = absurd (false≢true (sym q ∙ p))

-- two numbers are equal in either order
pub eqb_sym : (a b : ℕ) → eqb a b ≡ eqb b a
eqb_sym a b =
    ⊎_elim
    (λ e. eq-eqb a b (sym (eqb-true b a e)) ∙ sym e)
    (λ d. ne_eqb a b (λ e. clash (eq-eqb b a (sym e)) d) ∙ sym d)
    (bcase (eqb b a))

pub and_left : (a b : Bool) → (a && b) ≡ true → a ≡ true
and_left true b h = refl
and_left false b h = absurd (false≢true h)

pub and_right : (a b : Bool) → (a && b) ≡ true → b ≡ true
and_right true b h = h
and_right false b h = absurd (false≢true h)

pub and_intro : (a b : Bool) → a ≡ true → b ≡ true → (a && b) ≡ true
and_intro true b p q = q
and_intro false b p q = absurd (false≢true p)

pub or_false_left : (a b : Bool) → (a || b) ≡ false → a ≡ false
or_false_left true b h = h
or_false_left false b h = refl

pub or_false_right : (a b : Bool) → (a || b) ≡ false → b ≡ false
or_false_right true b h = absurd (false≢true (sym h))
or_false_right false b h = h

pub or_intro_right : (a b : Bool) → b ≡ true → (a || b) ≡ true
or_intro_right true b h = refl
or_intro_right false b h = h

module _ {A : Type 0} where
  pub all_append : (p : A → Bool) (xs ys : List A) → all p (xs ++ ys) ≡ (all p xs && all p ys)
  unfolding all
  all_append p [] ys = refl
  all_append p (x ∷ xs) ys = rw (all_append p xs ys) (sym (and_assoc (p x) (all p xs) (all p ys)))

  pub all_head : (p : A → Bool) (x : A) (xs : List A) → all p (x ∷ xs) ≡ true → p x ≡ true
  unfolding all
  all_head p x xs h = and_left (p x) (all p xs) h

  pub all_tail : (p : A → Bool) (x : A) (xs : List A) → all p (x ∷ xs) ≡ true → all p xs ≡ true
  unfolding all
  all_tail p x xs h = and_right (p x) (all p xs) h

  pub all_cons : (p : A → Bool) (x : A) (xs : List A) → p x ≡ true → all p xs ≡ true → all p (x ∷ xs) ≡ true
  unfolding all
  all_cons p x xs h k = and_intro (p x) (all p xs) h k

  pub all_get_d : (p : A → Bool) (xs : List A) (d : A) (i : ℕ) → all p xs ≡ true → i < length xs → p (get_or xs i d) ≡ true
  all_get_d p [] d i h k = absurd (omega arith)
  all_get_d p (x ∷ xs) d zero h k = all_head p x xs h
  all_get_d p (x ∷ xs) d (suc i) h k = all_get_d p xs d i (all_tail p x xs h) (omega arith)

  -- what one test gives of every element, another may take up
  pub all_map : (p q : A → Bool) → ((x : A) → p x ≡ true → q x ≡ true) → (xs : List A) → all p xs ≡ true → all q xs ≡ true
  unfolding all
  all_map p q f [] h = refl
  all_map p q f (x ∷ xs) h = all_cons q x xs (f x (all_head p x xs h)) (all_map p q f xs (all_tail p x xs h))

  pub texts_append : (f : A → Bytes) (xs ys : List A) → texts f (xs ++ ys) ≡ texts f xs ++ texts f ys
  unfolding texts
  texts_append f [] ys = refl
  texts_append f (x ∷ xs) ys = rw (texts_append f xs ys) (sym (append_assoc (f x) (texts f xs) (texts f ys)))

  -- equal numbers have equal sums
  pub total_same : (f g : A → ℕ) → ((x : A) → f x ≡ g x) → (xs : List A) → total f xs ≡ total g xs
  unfolding total
  total_same f g h [] = refl
  total_same f g h (x ∷ xs) = omega (arith, h x, total_same f g h xs)

  pub total_append : (f : A → ℕ) (xs ys : List A) → total f (xs ++ ys) ≡ total f xs + total f ys
  unfolding total
  total_append f [] ys = omega arith
  total_append f (x ∷ xs) ys = omega (arith, total_append f xs ys)

  pub length_texts : (f : A → Bytes) (xs : List A) → length (texts f xs) ≡ total (λ x. length (f x)) xs
  unfolding texts total
  length_texts f [] = refl
  length_texts f (x ∷ xs) = rw (length-append (f x) (texts f xs), length_texts f xs) refl

-- the bytes of a list of texts pass a test where the bytes of each do
pub all_texts : {A : Type 0} (p : ℕ → Bool) (f : A → Bytes) (xs : List A) → all (λ x. all p (f x)) xs ≡ true → all p (texts f xs) ≡ true
unfolding all texts
all_texts p f [] h = refl
all_texts p f (x ∷ xs) h =
    all_append p (f x) (texts f xs) ∙ and_intro (all p (f x)) (all p (texts f xs)) (all_head (λ x. all p (f x)) x xs h) (all_texts p f xs (all_tail (λ x. all p (f x)) x xs h))

-- a part that reaches to the end is all that is left from its start on
pub rest_is : (s : Bytes) (at : ℕ) → take (length s - at) (drop at s) ≡ drop at s
rest_is s at = take_all (length s - at) (drop at s) (omega (arith, length-drop at s))

pub same_eq : (s t : Bytes) → same s t ≡ true → s ≡ t
unfolding same
same_eq [] [] h = refl
same_eq [] (b ∷ t) h = absurd (false≢true h)
same_eq (a ∷ s) [] h = absurd (false≢true h)
same_eq (a ∷ s) (b ∷ t) h = rw (eqb-true a b (and_left (eqb a b) (same s t) h), same_eq s t (and_right (eqb a b) (same s t) h)) refl

pub same_refl : (s : Bytes) → same s s ≡ true
unfolding same
same_refl [] = refl
same_refl (a ∷ s) = and_intro (eqb a a) (same s s) (eq-eqb a a refl) (same_refl s)
