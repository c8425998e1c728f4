-- The two ways out of a changing call: refused before it looks at the message, or by what the message that is held makes of it. Either
-- way it has done what the definition asks for, whatever record and stores hold. Assumes nothing.
use Rattle.std.specs.Prelude.{Result, Ok, Err}
use Rattle.std.specs.Result.{result_unwrap_or, IsErrAnd}
use mathlib.Core.Path.{◌≡◌, refl, sym, ap, ◌∙◌, subst}
use mathlib.Core.Bool.{Bool, true, false, not, ◌&&◌}
use mathlib.Core.Option.{Option, none, some}
use mathlib.Core.Logic.{⊎_elim}
use Rattle.format.specs.Bytes.{Bytes, all}
use Rattle.format.specs.Characters.{is_utf8}
use Rattle.format.specs.Refusals.{refused, numbers, pass, Check, passes, refuse_if, not_utf8, nothing_held, ◌>>◌}
use Rattle.format.specs.Told.{meant, checked, told}
use Rattle.format.specs.Message.{Message}
use Rattle.format.specs.Calls.{Call, arguments, handed_in, change, answer}
use Rattle.format.specs.Layout.{Lent, Holds, Held, message, nothing}
use Rattle.format.specs.Lending.{head_lent, lengths, leaves, Changed}
use Rattle.format.specs.declared.Numbers.{Numbers}
use Rattle.format.specs.declared.CpimMessage.{CpimMessage}
use Rattle.format.specs.declared.refusal.Refusal.{Refusal}
use Rattle.format.proofs.Lists.{bcase, clash}
use Rattle.format.proofs.Rulesets.{checks}
use Rattle.validate.proofs.Chains.{passed, handed_on}
use Rattle.store_check.specs.Holding.{message_holds}
use Rattle.store_check.proofs.MessageHeld.{holds_held}
use Rattle.message_edit.specs.Edits.{Does}
use Rattle.message_edit.proofs.MessageBounds.{held_in, holding}
use Rattle.message_rules.specs.Readiness.{readiness}
use Rattle.message_rules.proofs.MessageChecks.{does_passed}

pub ready_parts : (held utf8 : Bool) → passes (readiness held utf8) ≡ true → (held ≡ true) × (utf8 ≡ true)
unfolding readiness
ready_parts held utf8 h = simp checks at h

-- the checks, by whether something is held
ready_none : (utf8 : Bool) → readiness false utf8 ≡ refused nothing_held
unfolding readiness refuse_if ◌>>◌
ready_none utf8 = refl

pub ready_some : (utf8 : Bool) → readiness true utf8 ≡ refuse_if (not utf8) not_utf8
unfolding readiness refuse_if ◌>>◌
ready_some utf8 = refl

-- the same where no argument has to be UTF-8
pub held_alone : (held : Bool) → refuse_if (not held) nothing_held ≡ readiness held true
unfolding readiness refuse_if ◌>>◌
held_alone true = refl
held_alone false = refl

-- What record and stores hold is judged by one test.
pub record Judged (l : Lent) (held : Bool) : Type 0 where
  pub some_held : held ≡ true → (k : Message) × Holds l k
  pub none_held : (k : Message) → Holds l k → held ≡ true

pub judged_head : (m : CpimMessage) (head : Bytes) → Judged (head_lent m head) (message_holds m head)
judged_head m head =
    record {
      some_held = λ h. (held_in m head, holding m head h);
      none_held = λ k h. holds_held (head_lent m head) k h;
    }

module _ (c : Call) (l k : Lent) (n : Numbers) (held utf8 : Bool) (judged : Judged l held) (texts_are : utf8 ≡ all is_utf8 (arguments c))
    (handed : handed_in c ≡ pass) where
  -- the answer to a message that is held
  answer_held : (m : Message) → answer c (lengths l) (some m) ≡ ◌>>◌ (refuse_if (not utf8) not_utf8) (change c (lengths l) m)
  unfolding answer ◌>>◌
  answer_held m = rw (handed, sym texts_are) refl

  -- the test fails where nothing is held, and passes where a message is
  none_false : ((m : Message) → Holds l m → ⊥) → held ≡ false
  none_false f = ⊎_elim (λ t. absurd (f (judged.some_held t).0 (judged.some_held t).1)) (λ t. t) (bcase held)

  changed : ((o : Option Message) → Held l o → Does l k n (answer c (lengths l) o)) → Changed c l k n
  changed f = record { answered = λ o h. (f o h).answered; left = λ o h. (f o h).left }

  -- refused where nothing is held, or for an argument that is not UTF-8
  pub refused_early : (e : Refusal) → checked {A = Unit {0}} (Err e) ≡ readiness held utf8 → n ≡ told {A = CpimMessage} (Err e) → k ≡ l → Changed c l k n
  unfolding answer leaves numbers checked told ◌>>◌
  refused_early e r t s = changed ends
    where
      ends : (o : Option Message) → Held l o → Does l k n (answer c (lengths l) o)
      ends none (nothing f) =
          record { answered = t ∙ ap numbers (r ∙ ap (λ (b : Bool). readiness b utf8) (none_false f) ∙ ready_none utf8); left = s }
      ends (some m) (message h) =
          let same : refused (meant e) ≡ refuse_if (not utf8) not_utf8 = r ∙ ap (λ (b : Bool). readiness b utf8) (judged.none_held m h) ∙ ready_some utf8 in
          subst (Does l k n) (sym (answer_held m))
          (subst (λ (x : Check). Does l k n (◌>>◌ x (change c (lengths l) m))) same (record { answered = t; left = s }))

  -- by what the message that is held makes of it
  pub done_held : held ≡ true → utf8 ≡ true → ((m : Message) → Holds l m → Does l k n (change c (lengths l) m)) → Changed c l k n
  done_held t u does = changed ends
    where
      ends : (o : Option Message) → Held l o → Does l k n (answer c (lengths l) o)
      ends none (nothing f) = clash t (none_false f)
      ends (some m) (message h) =
          subst (Does l k n) (sym (answer_held m))
          (does_passed l k n (refuse_if (not utf8) not_utf8) (change c (lengths l) m) (simp checks u) (does m h))

-- The same for the calls that take the head store and two texts.
pub two_texts : (a b : Bool) → (a && b) ≡ (a && (b && true))
two_texts a true = refl
two_texts a false = refl

module _ (c : Call) (m : CpimMessage) (head a b : Bytes) (handed : handed_in c ≡ pass)
    (texts_are : (is_utf8 a && is_utf8 b) ≡ all is_utf8 (arguments c)) where
  abbrev ready : Check
  ready = readiness (message_holds m head) (is_utf8 a && is_utf8 b)

  pub call_refused : (e : Refusal) (q : Result CpimMessage Refusal) → checked {A = Unit {0}} (Err e) ≡ ready → IsErrAnd q (λ d. d ≡ e)
      → Changed c (head_lent m head) (head_lent (result_unwrap_or q m) head) (told q)
  call_refused e q r s =
      let same = handed_on q s in
      refused_early c (head_lent m head) (head_lent (result_unwrap_or q m) head) (told q) (message_holds m head) (is_utf8 a && is_utf8 b) (judged_head m head)
      texts_are handed e r (ap told same) (ap (λ (x : Result CpimMessage Refusal). head_lent (result_unwrap_or x m) head) same)

  pub call_held : {u : Unit {0}} → checked (Ok u) ≡ ready → message_holds m head ≡ true
  call_held r = (ready_parts (message_holds m head) (is_utf8 a && is_utf8 b) (passed ready r)).0

  pub call_done : {u : Unit {0}} → checked (Ok u) ≡ ready → (k : Lent) (i : Numbers)
      → ((q : Message) → Holds (head_lent m head) q → Does (head_lent m head) k i (change c (lengths (head_lent m head)) q))
      → Changed c (head_lent m head) k i
  call_done r k i does =
      let both = ready_parts (message_holds m head) (is_utf8 a && is_utf8 b) (passed ready r) in
      done_held c (head_lent m head) k i (message_holds m head) (is_utf8 a && is_utf8 b) (judged_head m head) texts_are handed both.0 both.1 does
