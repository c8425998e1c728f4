-- How many stand before the first that fails a test: all of them exactly where every one passes. And each clause, asked of a header, its
-- parameters or a content header as it is stored, is the definition's. Assumes nothing.
use Prim.Native.Nat.{ℕ, suc, ◌≤◌, ◌<◌}
use mathlib.Core.Path.{◌≡◌, refl, sym, ap, subst, ◌∙◌}
use mathlib.Core.Bool.{Bool, true, false, not}
use mathlib.Core.Logic.{⊎_elim}
use mathlib.Core.List.{List, [], ◌∷◌, map}
use native.Mathlib.Omega.{arith}
use lib.Dec.{eqb}
use lib.ListN.{length}
use borrow.Author.Tests.{ne_eqb}
use Rattle.format.specs.Bytes.{Bytes, is_empty, ascii, same_letters, all}
use Rattle.format.specs.Message.{Entry, Header}
use Rattle.format.specs.Layout.{layout_entry, layout_header}
use Rattle.format.specs.Demand3.{no_param, not_type, clear_name, clear_content}
use Rattle.format.specs.SecondReading.{spaceless_param, spaceless}
use Rattle.format.proofs.Lists.{bcase, all_head, all_tail}
use Rattle.store_entries.specs.Stored.{Stored, stored_entry, stored_header, entries_in}
use Rattle.store_entries.proofs.Layouts.{headers_read, contents_read, contents_shaped}
use Rattle.lookup_nth.specs.Listed.{Listed}
use Rattle.std.specs.Prelude.{Option, Some, None, is_some}
use Rattle.format.specs.Characters.{is_white, clear_ends}
use Rattle.roundtrip.specs.Clauses.{as_entry, FirstFails, params_stand, stored_spaceless, passing}

module _ {A : Type 0} (p : A → Bool) where
  pub passing_nil : passing p [] ≡ 0
  unfolding passing
  passing_nil = refl

  pub passing_on : (x : A) (xs : List A) → p x ≡ true → passing p (x ∷ xs) ≡ suc (passing p xs)
  unfolding passing
  passing_on x xs h = rw h refl

  pub passing_stops : (x : A) (xs : List A) → p x ≡ false → passing p (x ∷ xs) ≡ 0
  unfolding passing
  passing_stops x xs h = rw h refl

  pub passing_all : (xs : List A) → length xs ≤ passing p xs → all p xs ≡ true
  unfolding all
  passing_all [] l = refl
  passing_all (x ∷ xs) l =
      ⊎_elim
      (λ h. rw h (passing_all xs (omega (arith, l, passing_on x xs h))))
      (λ h. absurd (omega (arith, l, passing_stops x xs h)))
      (bcase (p x))

  pub all_passing : (xs : List A) → all p xs ≡ true → passing p xs ≡ length xs
  unfolding all passing
  all_passing [] h = refl
  all_passing (x ∷ xs) h = rw (all_head p x xs h) (ap suc (all_passing xs (all_tail p x xs h)))

  pub passing_some : (xs : List A) → passing p xs < length xs → all p xs ≡ false
  unfolding all
  passing_some [] l = absurd (omega arith)
  passing_some (x ∷ xs) l =
      ⊎_elim
      (λ h. rw h (passing_some xs (omega (arith, l, passing_on x xs h))))
      (λ h. rw h refl)
      (bcase (p x))

-- none fails exactly where all pass
pub none_fails : {A : Type 0} (p : A → Bool) (xs : List A) (o : Option ℕ) (b : Bool) → is_some o ≡ not b → FirstFails p xs o → b ≡ all p xs
none_fails p xs None true e h = sym h
none_fails p xs None false e h = absurd (cc)
none_fails p xs (Some n) true e h = absurd (cc)
none_fails p xs (Some n) false e h = sym h.0

-- a test of what each element is stored as
module _ {A B : Type 0} (f : A → B) (p : B → Bool) (q : A → Bool) (same : (x : A) → p (f x) ≡ q x) where
  passing_map : (xs : List A) → passing p (map f xs) ≡ passing q xs
  unfolding passing
  passing_map [] = refl
  passing_map (x ∷ xs) = rw (same x, passing_map xs) refl

  all_map : (xs : List A) → all p (map f xs) ≡ all q xs
  unfolding all
  all_map [] = refl
  all_map (x ∷ xs) = rw (same x, all_map xs) refl

  -- the first that fails it
  first_map : (xs : List A) (o : Option ℕ) → FirstFails p (map f xs) o → FirstFails q xs o
  first_map xs None h = sym (all_map xs) ∙ h
  first_map xs (Some n) h = (sym (all_map xs) ∙ h.0, h.1 ∙ passing_map xs)

none_counted : (es : List Entry) → eqb (length es) 0 ≡ is_empty es
unfolding is_empty
none_counted [] = refl
none_counted (e ∷ es) = ne_eqb (length (e ∷ es)) 0 (λ h. absurd (omega arith))

-- the parameters of a header as it is stored
stored_spaceless_lem : (h : Header) → stored_spaceless (stored_header h) ≡ spaceless h
unfolding stored_spaceless stored_header spaceless stored_entry
stored_spaceless_lem h =
    ap (all (λ p. spaceless_param (as_entry p))) (contents_read h.params) ∙ all_map stored_entry (λ p. spaceless_param (as_entry p)) spaceless_param (λ e. refl) h.params

pub stored_stand : (hs : List Header) → all params_stand (map stored_header hs) ≡ true
unfolding all params_stand stored_header
stored_stand [] = refl
stored_stand (h ∷ hs) = rw (contents_shaped h.params) (stored_stand hs)

-- Headers laid out one behind another.
module _ (hs : List Header) (s : Bytes) (many : ℕ) (l : Listed layout_header hs s many) (o : Option ℕ) where
  headers_as : (p : Stored → Bool) (q : Header → Bool) → ((h : Header) → p (stored_header h) ≡ q h) → FirstFails p (entries_in many s) o → FirstFails q hs o
  headers_as p q same h = first_map stored_header p q same hs o (subst (λ (es : List Stored). FirstFails p es o) (rw (l.bytes, l.entries) (headers_read hs)) h)

  pub no_params : FirstFails (λ e. eqb e.params 0) (entries_in many s) o → FirstFails no_param hs o
  unfolding no_param stored_header
  no_params = headers_as (λ e. eqb e.params 0) no_param (λ h. none_counted h.params)

  pub no_spaces : FirstFails stored_spaceless (entries_in many s) o → FirstFails spaceless hs o
  no_spaces = headers_as stored_spaceless spaceless stored_spaceless_lem

  pub clear_names : FirstFails (λ e. clear_ends is_white e.name) (entries_in many s) o → FirstFails clear_name hs o
  unfolding clear_name stored_header
  clear_names = headers_as (λ e. clear_ends is_white e.name) clear_name (λ h. refl)

-- Content headers.
module _ (es : List Entry) (s : Bytes) (many : ℕ) (l : Listed layout_entry es s many) (o : Option ℕ) where
  contents_as : (p : Stored → Bool) (q : Entry → Bool) → ((e : Entry) → p (stored_entry e) ≡ q e) → FirstFails p (entries_in many s) o → FirstFails q es o
  contents_as p q same h = first_map stored_entry p q same es o (subst (λ (xs : List Stored). FirstFails p xs o) (rw (l.bytes, l.entries) (contents_read es)) h)

  pub not_types : FirstFails (λ e. not (same_letters (ascii "Content-type") e.name)) (entries_in many s) o → FirstFails not_type es o
  unfolding not_type stored_entry
  not_types = contents_as (λ e. not (same_letters (ascii "Content-type") e.name)) not_type (λ e. refl)

  pub clear_contents : FirstFails (λ e. clear_content (as_entry e)) (entries_in many s) o → FirstFails clear_content es o
  unfolding clear_content stored_entry
  clear_contents = contents_as (λ e. clear_content (as_entry e)) clear_content (λ e. refl)
