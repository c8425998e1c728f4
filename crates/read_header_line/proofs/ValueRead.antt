-- The value of a header line read: 5, 10. Assumes nothing.
use Rattle.std.specs.Prelude.{Result, Some, None, Ok, Err, is_some}
use Rattle.std.specs.Result.{IsErrAnd}
use Rattle.std.specs.Prelude as std
use Rattle.std.specs.Option.{ok_or}
use Prim.Native.Nat.{ℕ, ◌≤◌, ◌<◌}
use mathlib.Core.Path.{◌≡◌, refl, sym, ap, ◌∙◌}
use mathlib.Core.List.{List}
use mathlib.Core.Option.{Option, none, some}
use native.Mathlib.Omega.{arith}
use lib.ListN.{length}
use Rattle.format.specs.Bytes.{Bytes}
use Rattle.format.specs.Escaping.{unescape_by}
use Rattle.format.specs.Limits.{max_value}
use Rattle.format.specs.Refusals.{Out, passes, refused, accepted, bad_escape, value_too_long, ◌>>◌}
use Rattle.format.specs.Validators.{header_value}
use Rattle.format.specs.Message.{Entry, Header, Message}
use Rattle.format.specs.Calls.{Stores, append}
use Rattle.format.specs.Layout.{Lent}
use Rattle.format.specs.Reading.{checked_value}
use Rattle.format.specs.Told.{meant, checked, told}
use Rattle.format.specs.declared.Numbers.{Numbers}
use Rattle.format.specs.declared.Manner.{Manner}
use Rattle.format.specs.declared.refusal.Refusal.{Refusal}
use Rattle.format.specs.declared.refusal.Refusal.TheVariants as code
use Rattle.format.proofs.Steps.{then_passed, at_most_passed}
use Rattle.format.proofs.Answers.{over_limit}
use Rattle.unescape.specs.Reads.{measured, value_of}
use Rattle.store_splice.specs.Notations.{Sized}
use Rattle.store_splice.specs.declared.Notation.TheVariants.{Escaped}
use Rattle.message_edit.specs.Edits.{Does, Spelt}
use Rattle.message_rules.proofs.MessageChecks.{value_short}
use Rattle.read_header_line.specs.HeaderLine.{append_read, Tail}
use Rattle.read_header_line.specs.Gathered.{Yields, Sizes}
use Rattle.read_header_line.proofs.Yielding.{ok_err, yields, refuses, check_passed, check_stops, does_ended, does_on}

-- what `ok_or` made an error of was none
pub ok_or_err : {A : Type 0} (o : std.Option A) (x e : Refusal) → Err e ≡ ok_or o x → (None ≡ o) × (x ≡ e)
ok_or_err None x e h = (refl, let z : x ≡ e = cc in z)
ok_or_err (Some a) x e h = ok_err a e (sym h)

pub ok_or_ok : {A : Type 0} (o : std.Option A) (x : Refusal) (a : A) → Ok a ≡ ok_or o x → Some a ≡ o
ok_or_ok None x a h = ok_err a x h
ok_or_ok (Some b) x a h = let z : a ≡ b = cc in ap (λ (c : _). Some c) z

-- By what the text reads as.
module _ (o : Option Bytes) where
  -- 5
  pub unread : None ≡ measured o → checked_value o ≡ refused bad_escape
  unfolding checked_value
  unread h = ap checked_value (go o h)
    where
      go : (p : Option Bytes) → None ≡ measured p → p ≡ none
      go none h = refl
      go (some v) h = absurd (let z : ◌≡◌ {A = ℕ} 0 1 = cc in omega arith)

  module _ (n : ℕ) (h : Some n ≡ measured o) where
    length_is : (v : Bytes) × (o ≡ some v) × (n ≡ length v)
    length_is = go o h
      where
        go : (p : Option Bytes) → Some n ≡ measured p → (v : Bytes) × (p ≡ some v) × (n ≡ length v)
        go none h = absurd (let z : ◌≡◌ {A = ℕ} 0 1 = cc in omega arith)
        go (some v) h = (v, refl, cc)

    -- 10
    pub too_long_lem : {P : ℕ → Bytes → Type 0} → max_value < n → Yields (Err (code.ValueTooLong n)) (checked_value o) P
    unfolding checked_value header_value meant ◌>>◌
    too_long_lem l =
        let v = length_is in
        refuses (code.ValueTooLong n)
        (ap checked_value v.1 ∙ rw (over_limit max_value value_too_long (length v.0) (omega (arith, v.2)), ← v.2) refl)

    pub value_stands : n ≤ max_value → Yields (Ok n) (checked_value o) (Sizes o)
    unfolding checked_value header_value
    value_stands l =
        let v = length_is in
        yields v.0
        (ap checked_value v.1 ∙ then_passed (header_value v.0) (accepted v.0) (at_most_passed max_value value_too_long (length v.0) (omega (arith, v.2))))
        (record { reads = v.1; size_is = v.2; short = l })

  -- A plain text, by what is said of it.
  module _ (text : Bytes) (plain : o ≡ some text) where
    pub plain_refused : {R : Type 0} {P : R → Bytes → Type 0} (e : Refusal) → checked {A = Unit {0}} (Err e) ≡ header_value text → Yields (Err e) (checked_value o) P
    unfolding checked_value
    plain_refused e h = refuses e (ap checked_value plain ∙ check_stops (header_value text) _ e h)

    pub plain_passed : (u : Unit {0}) → checked (Ok u) ≡ header_value text → checked_value o ≡ accepted text
    unfolding checked_value
    plain_passed u h = ap checked_value plain ∙ check_passed (header_value text) _ u h

    pub plain_short : (u : Unit {0}) → checked (Ok u) ≡ header_value text → length text ≤ max_value
    unfolding checked passes
    plain_short u h = value_short text (ap passes (sym h))

-- what is asked of an entry whose value was read
pub escaped_sized : (r : Manner) (text : Bytes) {v : Bytes} {size : ℕ} → Sizes (unescape_by r text) size v → Sized (Escaped r) text size
escaped_sized r text s = (ap (λ (p : Option Bytes). is_some (measured p)) s.reads, s.size_is ∙ ap (λ (p : Option Bytes). length (value_of p)) (sym s.reads))

-- The header of a name and parameters, appended to what l holds.
module _ (name : Bytes) (ps : List Entry) (stores : Stores) (k : Message) (o : Out Bytes) {l j : Lent} where
  pub append_refused : {R S : Type 0} {P : R → Bytes → Type 0} {e : Refusal} → Yields {R = R} (Err e) o P → (q : Result S Refusal) → IsErrAnd q (λ d. d ≡ e) → j ≡ l
      → Does l j (told q) (append_read name o ps stores k)
  unfolding append_read
  append_refused y q s z = does_ended y _ q s z

  pub append_given : {v w tail : Bytes} {params : ℕ} {n : Numbers} → o ≡ accepted v → w ≡ v → Tail ps params tail
      → ((x : Header) → Spelt x name w params tail → Does l j n (append x stores k))
      → Does l j n (append_read name o ps stores k)
  unfolding append_read
  append_given {v} e z t does = does_on _ e (does (record { name = name; value = v; params = ps }) (record { name_is = refl; value_is = sym z; params_are = t.many_are; tail_is = t.bytes_are }))
