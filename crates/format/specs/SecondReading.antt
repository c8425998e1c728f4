-- Document 02, T-01: for every list of changing calls, the second reading of the text of the message held gives that message exactly under
-- a stated condition. Proved as `second_reading` in proofs/SecondReading.antt. Assumes nothing.
use Rattle.std.specs.Prelude.{◌≡◌, Bool, true, not, ◌&&◌, ◌↔◌}
use Rattle.format.specs.Bytes.{Bytes, all, space, has}
use Rattle.format.specs.Characters.{is_utf8, is_white, clear_ends}
use Rattle.format.specs.Refusals.{accepted, ◌carrying◌}
use Rattle.format.specs.Message.{Entry, Header, Message, valid}
use Rattle.format.specs.Calls.{Stores}
use Rattle.format.specs.Writing.{write}
use Rattle.format.specs.Reading.{read}
use Rattle.format.specs.ReadingRfc.{read_header_rfc, read_rfc}
use Rattle.format.specs.Layout.{Holds}
use Rattle.format.specs.Lending.{lengths, ParsedWith}
use Rattle.format.specs.Runs.{State, lend}
use Rattle.format.specs.Demand3.{has_header, not_type, clear_content, comes_back, RoomFor, Begun, History}
use Rattle.format.specs.declared.Numbers.{Numbers}

-- neither name nor value of a parameter holds U+0020
unfoldable pub spaceless_param : Entry → Bool
spaceless_param e = not (has space e.name) && not (has space e.value)

-- nor does any of a header's parameters
unfoldable pub spaceless : Header → Bool
spaceless h = all spaceless_param h.params

-- The condition: `comes_back` with three changes and nothing else. Parameters are allowed, `spaceless` in the place of `no_param`; header names
-- may have any ends, so there is no `clear_name`; header values may, for which `comes_back` has had no clause since T-03.
unfoldable pub comes_back_rfc : Message → Bool
comes_back_rfc m =
    has_header m.headers
    && (all spaceless m.headers
    && (is_utf8 m.body
    && (all not_type m.contents
    && (all clear_content m.contents && clear_ends is_white m.type))))

pub record SecondReading : Type 0 where
  -- The second reading of T, with room for M, gives M exactly under the condition: by the definition, and by `parse_cpim_rfc` from a state
  -- s to a state u.
  pub back : (t : State) (m : Message) →
      History t m →
      (stores : Stores) →
      RoomFor m stores →
      (read_rfc (write m) stores ≡ accepted m) ↔ (comes_back_rfc m ≡ true)
  pub parsed : (t : State) (m : Message) →
      History t m →
      (s u : State) (n : Numbers) →
      ParsedWith read_header_rfc (write m) (lend true s) (lend true u) n →
      RoomFor m (lengths (lend true s)) →
      ((n ≡ 0 carrying 0) × Holds (lend true u) m) ↔ (comes_back_rfc m ≡ true)
  -- Two messages that both meet the condition have equal texts exactly when they are equal.
  pub equal : (m k : Message) →
      valid m ≡ true →
      valid k ≡ true →
      comes_back_rfc m ≡ true →
      comes_back_rfc k ≡ true →
      (write m ≡ write k) ↔ (m ≡ k)
  -- An accepted second reading begins a list of calls, so the claims about such lists are not empty.
  pub begins_rfc : (s : State) (t : Bytes) (m : Message) → read_rfc t (lengths (lend true s)) ≡ accepted m → (u : State) × Begun (lengths (lend true s)) u m
  -- A message that comes back by the first reading comes back by the second, so partners lose none by going over to it.
  pub wider : (m : Message) → comes_back m ≡ true → comes_back_rfc m ≡ true
  pub both : (m : Message) (stores : Stores) →
      valid m ≡ true →
      comes_back m ≡ true →
      RoomFor m stores →
      (read (write m) stores ≡ accepted m) × (read_rfc (write m) stores ≡ accepted m)
