-- What an input is that was read in stores of 65,536 bytes: refused, or a message that record and stores hold. Assumes nothing.
use mathlib.Core.Path.{◌≡◌, refl, sym, ap, ◌∙◌}
use mathlib.Core.Bool.{true}
use lib.ListN.{length}
use Rattle.format.specs.Bytes.{Bytes}
use Rattle.format.specs.Refusals.{Refusal, Out, accepted, refused, numbers, table}
use Rattle.format.specs.Message.{Message}
use Rattle.format.specs.Calls.{Stores}
use Rattle.format.specs.Layout.{Lent, Holds, empty_message}
use Rattle.format.specs.Lending.{head_lent, both_lent, lengths, length_of, Parsed}
use Rattle.format.specs.Reading.{read}
use Rattle.format.specs.declared.Numbers.{Numbers}
use Rattle.format.specs.declared.Manner.TheVariants.{Source}
use Rattle.format.proofs.Steps.{refused_number}
use Rattle.format.proofs.Begun.{parsed_holds}
use Rattle.store_check.specs.Holding.{message_holds}
use Rattle.store_check.proofs.MessageHeld.{holds_held}

abbrev pub stores : Stores
stores = record { head = 65536; body = 65536 }

module _ (input head body : Bytes) (k : Lent) (n : Numbers) (h : length head ≡ 65536) (b : length body ≡ 65536)
    (parsed : Parsed input (both_lent empty_message head body) k n) where
  abbrev lent : Lent
  lent = both_lent empty_message head body

  room : lengths lent ≡ stores
  unfolding lengths length_of
  room = rw (h, b) refl

  pub answers : n ≡ numbers (read input stores)
  answers = parsed.answered ∙ ap (λ (s : Stores). numbers (read input s)) room

  pub is_refused : (n.number ≡ 0 → ⊥) → (r : Refusal) × ((read input stores ≡ refused r) × (n ≡ table r))
  unfolding numbers
  is_refused z = by (read input stores) refl answers
    where
      by : (o : Out Message) → read input stores ≡ o → n ≡ numbers o → (r : Refusal) × ((read input stores ≡ refused r) × (n ≡ table r))
      by (accepted m) e f = absurd (z (ap (λ (x : Numbers). x.number) f))
      by (refused r) e f = (r, (e, f))

  module _ (z : n.number ≡ 0) where
    -- the message read
    pub is_read : (m : Message) × (read input stores ≡ accepted m)
    unfolding numbers
    is_read = by (read input stores) refl answers
      where
        by : (o : Out Message) → read input stores ≡ o → n ≡ numbers o → (m : Message) × (read input stores ≡ accepted m)
        by (accepted m) e f = (m, e)
        by (refused r) e f = absurd (refused_number r (ap (λ (x : Numbers). x.number) (sym f) ∙ z))

    pub in_both : Holds k is_read.0
    in_both = parsed_holds Source input lent k n is_read.0 parsed (ap (read input) room ∙ is_read.1)

    pub in_store : Holds (head_lent k.message k.head) is_read.0
    in_store = record { within = in_both.within; recorded = in_both.recorded; laid = in_both.laid; stored = tt }

    pub read_holds : message_holds k.message k.head ≡ true
    read_holds = holds_held k is_read.0 in_both
