-- A reading that gives back what was written exactly where a test of the message holds: by the definition, and between two states; and two
-- messages that pass the test have equal texts exactly when they are equal. For either reader of a header line, given both directions.
-- Assumes nothing.
use Prim.Native.Nat.{◌+◌}
use mathlib.Core.Path.{◌≡◌, refl, sym, ap, ◌∙◌}
use mathlib.Core.Bool.{Bool, true}
use mathlib.Core.Logic.{◌↔◌}
use native.Mathlib.Omega.{arith}
use lib.ListN.{length}
use Rattle.format.specs.Refusals.{accepted, numbers, ◌carrying◌, Out, refused}
use Rattle.format.specs.Message.{Message, need, valid}
use Rattle.format.specs.Calls.{Stores}
use Rattle.format.specs.Writing.{write}
use Rattle.format.specs.Reading.{read_with}
use Rattle.format.specs.ReadingRfc.{line_reader}
use Rattle.format.specs.Layout.{Holds}
use Rattle.format.specs.Lending.{lengths, ParsedWith}
use Rattle.format.specs.Runs.{State, lend}
use Rattle.format.specs.Demand3.{RoomFor}
use Rattle.format.specs.declared.Numbers.{Numbers}
use Rattle.format.specs.declared.Manner.{Manner}
use Rattle.format.proofs.Steps.{accepted_same, refused_number}
use Rattle.format.proofs.Messages.Unique.{holds_unique}
use Rattle.format.proofs.Begun.{parsed_holds}

-- what is answered with 0 is accepted
accepted_zero : {A : Type 0} (o : Out A) → numbers o ≡ 0 carrying 0 → (a : A) × (o ≡ accepted a)
unfolding numbers
accepted_zero (accepted a) h = (a, refl)
accepted_zero (refused r) h = absurd (refused_number r (ap (λ n. n.number) h))

module _ (r : Manner) (test : Message → Bool)
    (if-so : (m : Message) (st : Stores) → valid m ≡ true → test m ≡ true → RoomFor m st → read_with (line_reader r) (write m) st ≡ accepted m)
    (only_so : (m : Message) (st : Stores) → valid m ≡ true → read_with (line_reader r) (write m) st ≡ accepted m → test m ≡ true) where
  pub back_exactly : (m : Message) → valid m ≡ true → (st : Stores) → RoomFor m st → (read_with (line_reader r) (write m) st ≡ accepted m) ↔ (test m ≡ true)
  back_exactly m v st room = (only_so m st v, λ c. if-so m st v c room)

  pub parsed_exactly : (m : Message) → valid m ≡ true → (s u : State) (n : Numbers) → ParsedWith (line_reader r) (write m) (lend true s) (lend true u) n
      → RoomFor m (lengths (lend true s)) → ((n ≡ 0 carrying 0) × Holds (lend true u) m) ↔ (test m ≡ true)
  unfolding numbers
  parsed_exactly m v s u n w room = (only, whole)
    where
      only : (n ≡ 0 carrying 0) × Holds (lend true u) m → test m ≡ true
      only h =
          let a = accepted_zero (read_with (line_reader r) (write m) (lengths (lend true s))) (sym w.answered ∙ h.0) in
          let same = holds_unique (lend true u) u.body a.0 m refl (parsed_holds r (write m) (lend true s) (lend true u) n a.0 w a.1) h.1 in
          only_so m (lengths (lend true s)) v (a.1 ∙ ap accepted same)

      whole : test m ≡ true → (n ≡ 0 carrying 0) × Holds (lend true u) m
      whole c =
          let e = if-so m (lengths (lend true s)) v c room in
          (w.answered ∙ ap numbers e, parsed_holds r (write m) (lend true s) (lend true u) n m w e)

  -- with room for both, both read back from the one text
  pub equal_exactly : (m k : Message) → valid m ≡ true → valid k ≡ true → test m ≡ true → test k ≡ true → (write m ≡ write k) ↔ (m ≡ k)
  equal_exactly m k vm vk cm ck =
      let both : Stores = record { head = need m + need k; body = length m.body + length k.body } in (
        (λ h.
            accepted_same m k
            (sym (if-so m both vm cm (omega arith, omega arith)) ∙ (ap (λ t. read_with (line_reader r) t both) h ∙ if-so k both vk ck (omega arith, omega arith)))),
        ap write,
      )
