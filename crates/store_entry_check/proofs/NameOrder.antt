-- Names in order: each against the one before it, the first against the empty name, is each against all later ones, since the order
-- is transitive and no name is empty. Assumes nothing.
use mathlib.Core.Path.{◌≡◌, refl, sym, ap}
use mathlib.Core.Bool.{Bool, true, false, not, ◌&&◌, false≢true}
use mathlib.Core.List.{List, [], ◌∷◌, map}
use borrow.Author.Tests.{not-true}
use Rattle.format.specs.Bytes.{Bytes, is_empty, all, before}
use Rattle.format.specs.Message.{ascending, increasing}
use Rattle.format.proofs.Lists.{all_head, all_map}
use Rattle.format.proofs.Rulesets.{tests}
use Rattle.format.proofs.Messages.Order.{before_transitive, not_before_transitive}
use Rattle.store_entry_check.specs.Kinds.{follows}
use Rattle.store_entry_check.specs.declared.kinds.Kind.{Kind}
use Rattle.store_entry_check.specs.declared.kinds.Kind.TheVariants.{Header, Param, Content}

pub follows_transitive : (k : Kind) (a b c : Bytes) → follows k a b ≡ true → follows k b c ≡ true → follows k a c ≡ true
unfolding follows
follows_transitive Header a b c h g = ap not (not_before_transitive a b c (not-true (before b a) h) (not-true (before c b) g))
follows_transitive Param a b c h g = before_transitive a b c h g
follows_transitive Content a b c h g = before_transitive a b c h g

-- behind none any name may stand, if it is not empty
pub follows_none : (k : Kind) (name : Bytes) → is_empty name ≡ false → follows k [] name ≡ true
unfolding follows before is_empty
follows_none Header name h = refl
follows_none Param [] h = absurd (false≢true (sym h))
follows_none Param (b ∷ name) h = refl
follows_none Content [] h = absurd (false≢true (sym h))
follows_none Content (b ∷ name) h = refl

module _ {A : Type 0} (k : Kind) (key : A → Bytes) where
  -- each may stand behind the one before it, and the first behind this name
  unfoldable pub linked : Bytes → List A → Bool
  linked last [] = true
  linked last (x ∷ xs) = follows k last (key x) && linked (key x) xs

  -- each may stand behind every earlier one
  unfoldable pub ordered : List A → Bool
  ordered [] = true
  ordered (x ∷ xs) = all (λ y. follows k (key x) (key y)) xs && ordered xs

  -- all may stand behind this name
  abbrev pub behind : Bytes → List A → Bool
  behind last xs = all (λ y. follows k last (key y)) xs

  pub linked_ordered : (last : Bytes) (xs : List A) → linked last xs ≡ true → (behind last xs ≡ true) × (ordered xs ≡ true)
  unfolding linked ordered all
  linked_ordered last [] h = (refl, refl)
  linked_ordered last (x ∷ xs) h =
      let p = simp tests at h in
      let r = linked_ordered (key x) xs p.1 in
      let far = all_map (λ y. follows k (key x) (key y)) (λ y. follows k last (key y)) (λ y g. follows_transitive k last (key x) (key y) p.0 g) xs r.0 in
      simp tests ((p.0, far), r)

  pub ordered_linked : (last : Bytes) (xs : List A) → behind last xs ≡ true → ordered xs ≡ true → linked last xs ≡ true
  unfolding linked ordered all
  ordered_linked last [] h g = refl
  ordered_linked last (x ∷ xs) h g =
      let p = simp tests at g in
      simp tests (all_head (λ y. follows k last (key y)) x xs h, ordered_linked (key x) xs p.0 p.1)

  -- names that are not empty may all stand behind none
  pub behind_none : (xs : List A) → all (λ y. not (is_empty (key y))) xs ≡ true → behind [] xs ≡ true
  behind_none xs h = all_map (λ y. not (is_empty (key y))) (λ y. follows k [] (key y)) (λ y g. follows_none k (key y) (not-true (is_empty (key y)) g)) xs h

-- the names of elements made of others
pub linked_map : {A B : Type 0} (k : Kind) (key : A → Bytes) (f : B → A) (last : Bytes) (ys : List B)
    → linked k key last (map f ys) ≡ linked k (λ y. key (f y)) last ys
unfolding linked
linked_map k key f last [] = refl
linked_map k key f last (y ∷ ys) = ap (λ (b : Bool). follows k last (key (f y)) && b) (linked_map k key f (key (f y)) ys)

-- The order of headers, and of parameters and content headers, as a message has it.
module _ {A : Type 0} (key : A → Bytes) where
  pub ordered_ascending : (xs : List A) → ordered Header key xs ≡ ascending key xs
  unfolding ordered follows ascending
  ordered_ascending [] = refl
  ordered_ascending (x ∷ xs) = ap (λ (b : Bool). all (λ y. not (before (key y) (key x))) xs && b) (ordered_ascending xs)

  pub ordered_params : (xs : List A) → ordered Param key xs ≡ increasing key xs
  unfolding ordered follows increasing
  ordered_params [] = refl
  ordered_params (x ∷ xs) = ap (λ (b : Bool). all (λ y. before (key x) (key y)) xs && b) (ordered_params xs)

  pub ordered_contents : (xs : List A) → ordered Content key xs ≡ increasing key xs
  unfolding ordered follows increasing
  ordered_contents [] = refl
  ordered_contents (x ∷ xs) = ap (λ (b : Bool). all (λ y. before (key x) (key y)) xs && b) (ordered_contents xs)
