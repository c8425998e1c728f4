-- The ways out of `add_header_obj`: without a header, or by what is held as for every changing call. Assumes nothing.
use Rattle.std.specs.Prelude.{Ok, Err}
use mathlib.Core.Path.{◌≡◌, refl, sym, ap, ◌∙◌}
use mathlib.Core.Bool.{Bool, true, false, not, ◌&&◌}
use mathlib.Core.Option.{Option, none, some}
use borrow.Author.Tests.{not-true, not-false}
use Rattle.format.specs.Bytes.{Bytes, all}
use Rattle.format.specs.Characters.{is_utf8}
use Rattle.format.specs.Refusals.{refused, numbers, pass, not_utf8, nothing_held, refuse_if, ◌>>◌}
use Rattle.format.specs.Told.{checked, told}
use Rattle.format.specs.Validators.{header_name}
use Rattle.format.specs.Message.{LoneHeader, Message, named}
use Rattle.format.specs.Calls.{Stores, append, header_obj_added, add_header_obj, arguments, change, lends, header_held, handed_in, answer}
use Rattle.format.specs.Layout.{Lent, Holds, HoldsAlone, HeldAlone, header, nothing}
use Rattle.format.specs.Lending.{LentHeader, head_lent, lengths, leaves, Changed, HeaderAdded}
use Rattle.format.specs.declared.Numbers.{Numbers}
use Rattle.format.specs.declared.CpimMessage.{CpimMessage}
use Rattle.format.specs.declared.CpimHeader.{CpimHeader}
use Rattle.format.specs.declared.refusal.Refusal.{Refusal}
use Rattle.format.proofs.Lists.{clash}
use Rattle.format.proofs.Rulesets.{tests}
use Rattle.validate.proofs.Chains.{let_by, stopped, told_by}
use Rattle.store_check.specs.Holding.{message_holds, header_holds}
use Rattle.store_check.proofs.HeaderHeld.{holds_alone_held}
use Rattle.store_check.proofs.HeldCases.{alone_held}
use Rattle.message_edit.specs.Edits.{Does}
use Rattle.message_rules.specs.Readiness.{readiness}
use Rattle.message_rules.proofs.CallExits.{ready_some, judged_head, refused_early, done_held}

-- a test of two, by one of them
first_of : (a b : Bool) → (a && b) ≡ false → b ≡ true → a ≡ false
first_of true b h e = clash e h
first_of false b h e = refl

and_true : (a : Bool) → (a && true) ≡ a
and_true true = refl
and_true false = refl

pub both_are : (a b s t : Bool) → a ≡ s → b ≡ t → refuse_if (not (a && b)) nothing_held ≡ refuse_if (not (s && t)) nothing_held
both_are a b s t e f = λ i. refuse_if (not (e i && f i)) nothing_held

-- the arguments that have to be UTF-8, and the header handed in
texts_are : (name : Bytes) (x : LoneHeader) → is_utf8 name ≡ all is_utf8 (arguments (add_header_obj name (some x)))
unfolding arguments all
texts_are name x = sym (and_true (is_utf8 name))

header_in_lem : (name : Bytes) (x : LoneHeader) → handed_in (add_header_obj name (some x)) ≡ pass
unfolding lends header_held
header_in_lem name x = refl

-- whatever message is held, a header that is not is refused
nothing_in : (name : Bytes) (stores : Stores) (o : Option Message) → answer (add_header_obj name none) stores o ≡ refused nothing_held
unfolding answer lends header_held ◌>>◌
nothing_in name stores none = refl
nothing_in name stores (some m) = refl

pub both_held : {u : Unit {0}} (a b : Bool) → checked (Ok u) ≡ refuse_if (not (a && b)) nothing_held → (a ≡ true) × (b ≡ true)
both_held a b there = simp tests at (not-false (a && b) (let_by (not (a && b)) nothing_held there))

module _ (name : Bytes) (h : CpimHeader) (store : Bytes) (m : CpimMessage) (head : Bytes) (k : Lent) (n : Numbers) where
  -- what is lent
  abbrev lone : LentHeader
  lone = record { header = h; store = store }

  abbrev l : Lent
  l = head_lent m head

  abbrev both : Bool
  both = message_holds m head && header_holds h store

  -- no message or no header
  pub not_held : (e : Refusal) → checked {A = Unit {0}} (Err e) ≡ refuse_if (not both) nothing_held → n ≡ told {A = CpimMessage} (Err e) → k ≡ l → HeaderAdded name lone l k n
  unfolding leaves numbers readiness refuse_if ◌>>◌
  not_held e r t s = record { added = ends }
    where
      missing : both ≡ false
      missing = not-true both (stopped e (not both) nothing_held r)

      ends : (o : Option LoneHeader) → HeldAlone h store o → Changed (add_header_obj name o) l k n
      ends none (nothing g) =
          record {
            answered = λ o w. t ∙ told_by CpimMessage e (not both) nothing_held r ∙ sym (ap numbers (nothing_in name (lengths l) o));
            left = λ o w. s ∙ sym (ap (leaves l) (nothing_in name (lengths l) o));
          }
      ends (some x) (header a) =
          let unheld : message_holds m head ≡ false = first_of (message_holds m head) (header_holds h store) missing (holds_alone_held h store x a) in
          refused_early (add_header_obj name (some x)) l k n (message_holds m head) (is_utf8 name) (judged_head m head) (texts_are name x) (header_in_lem name x) e
          (r ∙ ap (λ (b : Bool). refuse_if (not b) nothing_held) missing ∙ ap (λ (b : Bool). readiness b (is_utf8 name)) (sym unheld)) t s

  -- both are there
  module _ {u : Unit {0}} (there : checked (Ok u) ≡ refuse_if (not both) nothing_held) where
    held : (message_holds m head ≡ true) × (header_holds h store ≡ true)
    held = both_held (message_holds m head) (header_holds h store) there

    with_both : ((x : LoneHeader) → HoldsAlone h store x → Changed (add_header_obj name (some x)) l k n) → HeaderAdded name lone l k n
    with_both does =
        record { added = alone_held (λ o. Changed (add_header_obj name o) l k n) h store held.1 does }

    pub no_text : (e : Refusal) → checked {A = Unit {0}} (Err e) ≡ refuse_if (not (is_utf8 name)) not_utf8 → n ≡ told {A = CpimMessage} (Err e) → k ≡ l → HeaderAdded name lone l k n
    no_text e r t s =
        with_both
        (λ x a. refused_early (add_header_obj name (some x)) l k n (message_holds m head) (is_utf8 name) (judged_head m head) (texts_are name x) (header_in_lem name x) e
        (r ∙ sym (ready_some (is_utf8 name)) ∙ ap (λ (b : Bool). readiness b (is_utf8 name)) (sym held.0)) t s)

    pub done : {v : Unit {0}} → checked (Ok v) ≡ refuse_if (not (is_utf8 name)) not_utf8
        → ((x : LoneHeader) (q : Message) → HoldsAlone h store x → Holds l q → Does l k n (◌>>◌ (header_name name) (append (named name x) (lengths l) q)))
        → HeaderAdded name lone l k n
    unfolding change header_obj_added
    done r does =
        with_both
        (λ x a. done_held (add_header_obj name (some x)) l k n (message_holds m head) (is_utf8 name) (judged_head m head) (texts_are name x) (header_in_lem name x)
        held.0 (not-false (is_utf8 name) (let_by (not (is_utf8 name)) not_utf8 r)) (λ q w. does x q a w))
