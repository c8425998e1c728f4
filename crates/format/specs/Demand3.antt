-- Demand 3: for every list of changing calls begun by an accepted `new` or reading, the message held is the one that the calls define,
-- and its text reads back as it exactly under a stated condition. Proved as `demand_3` in proofs/Demand3.antt. Assumes nothing.
use Rattle.std.specs.Prelude.{◌≤◌, ◌≡◌, Bool, true, not, ◌&&◌, ◌↔◌, List, [], ◌∷◌, length}
use Rattle.std.proofs.Math.Option.{none, some}
use Rattle.format.specs.Bytes.{Bytes, ascii, is_empty, all, same_letters, over}
use Rattle.format.specs.Characters.{is_utf8, is_white, clear_ends}
use Rattle.format.specs.Refusals.{Out, accepted, refused, ◌carrying◌}
use Rattle.format.specs.Message.{Entry, Header, Message, need, valid_alone, valid}
use Rattle.format.specs.Calls.{Stores, Call, Lends, body_store, header_store, head_alone, lends, answer, new}
use Rattle.format.specs.Writing.{write}
use Rattle.format.specs.Reading.{read_with, read}
use Rattle.format.specs.ReadingRfc.{line_reader}
use Rattle.format.specs.Layout.{Lent, Holds}
use Rattle.format.specs.Lending.{lengths, Made, ParsedWith, Parsed, Wrote}
use Rattle.format.specs.Runs.{State, lend, Run}
use Rattle.format.specs.declared.Numbers.{Numbers}
use Rattle.format.specs.declared.Manner.{Manner}

-- The condition, clause by clause.

-- a header
unfoldable pub has_header : List Header → Bool
has_header hs = not (is_empty hs)

-- no header parameter
unfoldable pub no_param : Header → Bool
no_param h = is_empty h.params

-- no content header called Content-type in any ASCII case
unfoldable pub not_type : Entry → Bool
not_type e = not (same_letters (ascii "Content-type") e.name)

-- no white space at either end of a header name
unfoldable pub clear_name : Header → Bool
clear_name h = clear_ends is_white h.name

-- nor of a content header name or a content header value
unfoldable pub clear_content : Entry → Bool
clear_content e = clear_ends is_white e.name && clear_ends is_white e.value

-- M has a header, no header parameter, a UTF-8 body, no content header called Content-type, and no white space at either end of a header
-- name, content header name, content header value or content type. The ends of header values are free (document 02, T-03).
unfoldable pub comes_back : Message → Bool
comes_back m =
    has_header m.headers
    && (all no_param m.headers
    && (is_utf8 m.body
    && (all not_type m.contents
    && (all clear_name m.headers && (all clear_content m.contents && clear_ends is_white m.type)))))

-- M, reckoned from the calls and the stores' lengths.

-- an accepted call changes the message as said; a refused one leaves it
unfoldable pub next : Out Message → Message → Message
next (accepted k) m = k
next (refused r) m = m

unfoldable pub after : Stores → Message → List Call → Message
after stores m [] = m
after stores m (c ∷ cs) = after stores (next (answer c stores (some m)) m) cs

-- A header handed to `add_header_obj` counts as what it holds: a header within limits and validators, or nothing.
unfoldable pub header_valid : Lends → Bool
header_valid body_store = true
header_valid (header_store n none) = true
header_valid (header_store n (some h)) = valid_alone h
header_valid head_alone = true

abbrev pub holds_header : Call → Bool
holds_header c = header_valid (lends c)

-- room for M: its need in head store and its body's length, or more
abbrev pub RoomFor : Message → Stores → Type 0
RoomFor m stores = (need m ≤ stores.head) × (length m.body ≤ stores.body)

-- How a list begins: an accepted `new`, `parse_cpim` or `parse_cpim_rfc`, lent stores of these lengths, left the state s and defines m.
pub data Begun (stores : Stores) (s : State) (m : Message) : Type 0 where
  by-new :
      (t b : Bytes) (l : Lent) (n : Numbers) →
      Made t b l (lend true s) n →
      stores ≡ lengths l →
      new t b stores ≡ accepted m →
      Begun stores s m
  by-reading :
      (r : Manner) (t : Bytes) (l : Lent) (n : Numbers) →
      ParsedWith (line_reader r) t l (lend true s) n →
      stores ≡ lengths l →
      read_with (line_reader r) t stores ≡ accepted m →
      Begun stores s m

-- A list of changing calls, begun so, has led to the state t, and the message that it defines is m.
pub record History (t : State) (m : Message) : Type 0 where
  pub stores : Stores
  pub start : State
  pub first : Message
  pub begun : Begun stores start first
  pub calls : List Call
  pub run : Run start calls t
  pub defined : m ≡ after stores first calls

pub record Demand3 : Type 0 where
  -- The message held after the list is M, and no other.
  pub held : (t : State) (m : Message) → History t m → Holds (lend true t) m
  pub only : (t : State) (m : Message) → History t m → (k : Message) → Holds (lend true t) k → k ≡ m
  -- `to_string`, given room, writes M's text T.
  pub written : (t : State) (m : Message) →
      History t m →
      (out text : Bytes) (n : Numbers) →
      Wrote (lend true t) out text n →
      length (write m) ≤ length out →
      (n ≡ 0 carrying 0) × (text ≡ over (write m) out)
  -- Reading T, with room for M, gives M exactly under the condition: by the definition, and by `parse_cpim` from a state s to a state u.
  pub back : (t : State) (m : Message) →
      History t m →
      (stores : Stores) →
      RoomFor m stores →
      (read (write m) stores ≡ accepted m) ↔ (comes_back m ≡ true)
  pub parsed : (t : State) (m : Message) →
      History t m →
      (s u : State) (n : Numbers) →
      Parsed (write m) (lend true s) (lend true u) n →
      RoomFor m (lengths (lend true s)) →
      ((n ≡ 0 carrying 0) × Holds (lend true u) m) ↔ (comes_back m ≡ true)
  -- Two messages that both meet the condition have equal texts exactly when they are equal. So it is of any two within limits and
  -- validators, and by `held` those that lists of calls lead to are among them (`histories_equal` in proofs/Demand3.antt).
  pub equal : (m k : Message) →
      valid m ≡ true →
      valid k ≡ true →
      comes_back m ≡ true →
      comes_back k ≡ true →
      (write m ≡ write k) ↔ (m ≡ k)
  -- None of this is said of nothing: an accepted `new` or reading begins a list, every list of calls has a run from a state that holds a
  -- message, and such a state has a writing.
  pub begins_new : (s : State) (t b : Bytes) (m : Message) → new t b (lengths (lend true s)) ≡ accepted m → (u : State) × Begun (lengths (lend true s)) u m
  pub begins_reading : (s : State) (t : Bytes) (m : Message) → read t (lengths (lend true s)) ≡ accepted m → (u : State) × Begun (lengths (lend true s)) u m
  pub runs : (s : State) (m : Message) → Holds (lend true s) m → (cs : List Call) → all holds_header cs ≡ true → (t : State) × Run s cs t
  pub writes : (s : State) (m : Message) → Holds (lend true s) m → (out : Bytes) → (text : Bytes) × (n : Numbers) × Wrote (lend true s) out text n
