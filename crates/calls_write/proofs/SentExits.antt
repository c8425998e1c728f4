-- The two ways out: nothing was begun, or the text of what is held was written. Assumes nothing.
use mathlib.Core.Path.{◌≡◌, refl, sym, ap, ◌∙◌}
use mathlib.Core.List.{List}
use Prim.Native.Nat.{ℕ}
use mathlib.Core.Option.{Option, some}
use lib.ListN.{length}
use Rattle.format.specs.Bytes.{Bytes}
use Rattle.format.specs.Refusals.{Out, accepted, refused, numbers}
use Rattle.format.specs.Message.{Message}
use Rattle.format.specs.Calls.{Stores, Call}
use Rattle.format.specs.LookingUp.{body_length_of}
use Rattle.format.specs.Writing.{to_text, writes}
use Rattle.format.specs.Layout.{Lent, Held, message}
use Rattle.format.specs.Lending.{both_lent, Wrote}
use Rattle.format.specs.Demand3.{after}
use Rattle.format.specs.declared.CpimMessage.{CpimMessage}
use Rattle.format.specs.declared.Numbers.{Numbers}
use Rattle.format.proofs.Steps.{refused_number}
use Rattle.calls_write.specs.Began.{Began}
use Rattle.calls_write.specs.Sent.{sent_text, Sent}

module _ (o : Out Message) (stores : Stores) (calls : List Call) (u : Lent) (k : CpimMessage) (head body out written : Bytes) (n answer : Numbers) (many : ℕ) (began : Began o stores calls u (both_lent k head body) n) where
  -- what was begun, by the numbers of its outcome
  as_numbers : Began o stores calls u (both_lent k head body) (numbers o)
  as_numbers = record { answered = refl; held = began.held; left = began.left }

  -- a refused beginning
  pub not_sent : (n.number ≡ 0 → ⊥) → answer ≡ n → many ≡ 0 → written ≡ out → Sent o stores calls u head body out written answer many
  unfolding sent_text numbers writes body_length_of
  not_sent z e l w = by o refl
    where
      by : (p : Out Message) → o ≡ p → Sent o stores calls u head body out written answer many
      by (accepted m) h = absurd (z (ap (λ (x : Numbers). x.number) (began.answered ∙ ap numbers h)))
      by (refused x) h =
          record {
            held = (k, as_numbers);
            answered = e ∙ began.answered ∙ ap numbers h ∙ sym (ap (λ (p : Out Message). numbers (sent_text p stores calls (length out))) h);
            text = w ∙ sym (ap (λ (p : Out Message). writes out (sent_text p stores calls (length out))) h);
            long = l ∙ sym (ap (λ (p : Out Message). body_length_of (sent_text p stores calls (length out))) h);
          }

  -- the text of what is held
  pub sent : n.number ≡ 0
      → Wrote (both_lent k head body) out written answer
      → ((p : Option Message) → Held (both_lent k head body) p → many ≡ body_length_of (to_text p (length out)))
      → Sent o stores calls u head body out written answer many
  unfolding sent_text numbers
  sent z wrote long = by o refl
    where
      by : (p : Out Message) → o ≡ p → Sent o stores calls u head body out written answer many
      by (accepted m) h =
          let holds = message (began.held m h) in
          record {
            held = (k, as_numbers);
            answered = wrote.answered (some (after stores m calls)) holds ∙ sym (ap (λ (p : Out Message). numbers (sent_text p stores calls (length out))) h);
            text = wrote.left (some (after stores m calls)) holds ∙ sym (ap (λ (p : Out Message). writes out (sent_text p stores calls (length out))) h);
            long = long (some (after stores m calls)) holds ∙ sym (ap (λ (p : Out Message). body_length_of (sent_text p stores calls (length out))) h);
          }
      by (refused x) h = absurd (refused_number x (ap (λ (v : Numbers). v.number) (sym (began.answered ∙ ap numbers h)) ∙ z))
