-- The two ways out of a list of calls: nothing was begun, or the calls were made. Assumes nothing.
use mathlib.Core.Path.{◌≡◌, sym, ap, ◌∙◌, subst}
use mathlib.Core.List.{List}
use Rattle.format.specs.Refusals.{Refusal, Out, accepted, refused, numbers}
use Rattle.format.specs.Message.{Message}
use Rattle.format.specs.Calls.{Stores, Call}
use Rattle.format.specs.Layout.{Lent, Holds, empty_message}
use Rattle.format.specs.Lending.{ReadLeaves, zeroed, zeroed_lent}
use Rattle.format.specs.Demand3.{after}
use Rattle.format.specs.declared.Numbers.{Numbers}
use Prim.Native.Nat.{ℕ}
use Rattle.std.specs.Prelude.{Result, Err}
use Rattle.std.specs.Result.{result_unwrap_or}
use Rattle.format.specs.Told.{meant, told}
use Rattle.format.specs.declared.refusal.Refusal as code
use Rattle.format.proofs.Steps.{refused_number}
use Rattle.calls_write.specs.Began.{Began}

-- number 0 is an accepted outcome's, and no other's
module _ (o : Out Message) (n : Numbers) (e : n ≡ numbers o) where
  accepted_zero : (m : Message) → o ≡ accepted m → n.number ≡ 0
  unfolding numbers
  accepted_zero m h = ap (λ (k : Numbers). k.number) (e ∙ ap numbers h)

  refused_other : (x : Refusal) → o ≡ refused x → n.number ≡ 0 → ⊥
  unfolding numbers
  refused_other x h z = refused_number x (ap (λ (k : Numbers). k.number) (sym (e ∙ ap numbers h)) ∙ z)

module _ (o : Out Message) (stores : Stores) (calls : List Call) (u k : Lent) (n : Numbers) (e : n ≡ numbers o) where
  pub not_begun : (n.number ≡ 0 → ⊥) → ((x : Refusal) → o ≡ refused x → k ≡ u) → Began o stores calls u k n
  not_begun z l = record { answered = e; held = λ m h. absurd (z (accepted_zero o n e m h)); left = l }

  pub begun_held : n.number ≡ 0 → ((m : Message) → o ≡ accepted m → Holds k (after stores m calls)) → Began o stores calls u k n
  begun_held z h = record { answered = e; held = h; left = λ x r. absurd (refused_other o n e x r z) }

-- what a refused reading leaves
pub by_refusal : (l k : Lent) (o : Out Message) (x : Refusal) → o ≡ refused x → ReadLeaves l k o → k ≡ record { message = empty_message; head = zeroed l.head; body = zeroed_lent l.body }
by_refusal l k o x h left = subst (λ (p : Out Message). ReadLeaves l k p) h left

-- the two numbers of a refusal: the first is not 0, and they stay where the refusal is handed on
module _ {A : Type 0} (r : Result A code.Refusal) (e : code.Refusal) where
  pub told_err : r ≡ Err e → (told r).number ≡ 0 → ⊥
  unfolding told numbers
  told_err h z = refused_number (meant e) (ap (λ (p : Result A code.Refusal). (told p).number) (sym h) ∙ z)

pub same_told : {A B : Type 0} (r : Result A code.Refusal) (q : Result B code.Refusal) (e : code.Refusal) → q ≡ Err e → r ≡ Err e → told q ≡ told r
unfolding told
same_told r q e g h = ap told g ∙ sym (ap told h)

pub none_made : {E : Type 0} (q : Result ℕ E) (e : E) → q ≡ Err e → result_unwrap_or q 0 ≡ 0
none_made q e g = ap (λ (p : Result ℕ _). result_unwrap_or p 0) g
