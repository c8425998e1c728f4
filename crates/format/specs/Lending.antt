-- What a call ensures of the record and stores lent to it, by the answer that document 01 gives: one shape for all changing calls, and
-- `new`, `parse_cpim`, `to_string`, `CpimHeader::new` and `with_param` beside it. Assumes nothing.
use Rattle.std.specs.Prelude.{ℕ, ◌≡◌, length, take, replicate}
use Rattle.std.proofs.Math.Option.{Option, none, some}
use Rattle.format.specs.Bytes.{Bytes, over}
use Rattle.format.specs.Refusals.{Out, accepted, refused, numbers}
use Rattle.format.specs.Message.{LoneHeader, Header, Message, need}
use Rattle.format.specs.Calls.{Stores, Call, add_header_obj, answer, new, new_header, with_param}
use Rattle.format.specs.Writing.{to_text, writes}
use Rattle.format.specs.Reading.{read_header, read_with}
use Rattle.format.specs.Layout.{Lent, Held, HeldAlone, layout, record_of, layout_alone, header_of, empty_message, empty_header}
use Rattle.format.specs.declared.Numbers.{Numbers}
use Rattle.format.specs.declared.CpimMessage.{CpimMessage}
use Rattle.format.specs.declared.CpimHeader.{CpimHeader}
use Rattle.format.specs.declared.Answer.{Answer}
use Rattle.format.specs.declared.HeaderAnswer.{HeaderAnswer}

-- What is lent to a call that takes the head store alone, and to one that takes both.
abbrev pub head_lent : CpimMessage → Bytes → Lent
head_lent m head = record { message = m; head = head; body = none }

abbrev pub both_lent : CpimMessage → Bytes → Bytes → Lent
both_lent m head body = record { message = m; head = head; body = some body }

-- the two numbers of an answer
abbrev pub numbers_of : Answer → Numbers
numbers_of a = record { number = a.number; carried = a.carried }

abbrev pub header_numbers : HeaderAnswer → Numbers
header_numbers a = record { number = a.number; carried = a.carried }

-- the length of a store; one that is not lent counts as empty
unfoldable pub length_of : Option Bytes → ℕ
length_of none = 0
length_of (some store) = length store

-- the lengths of the stores lent
unfoldable pub lengths : Lent → Stores
lengths l = record { head = length l.head; body = length_of l.body }

abbrev pub over_lent : Bytes → Option Bytes → Option Bytes
over_lent b none = none
over_lent b (some store) = some (over b store)

-- the record and the stores once a message is laid into them
unfoldable pub laid_in : Lent → Message → Lent
laid_in l m = record { message = record_of m; head = over (layout m) l.head; body = over_lent m.body l.body }

-- zeros over a store
abbrev pub zeroed : Bytes → Bytes
zeroed store = replicate (length store) 0

abbrev pub zeroed_lent : Option Bytes → Option Bytes
zeroed_lent none = none
zeroed_lent (some store) = some (zeroed store)

-- A changing call: accepted, it lays out its message; refused, it changes no message and no lent byte.
unfoldable pub leaves : Lent → Out Message → Lent
leaves l (accepted m) = laid_in l m
leaves l (refused r) = l

-- What every changing call ensures: l is what it is lent, k what it leaves, n what it answers, o what l holds.
pub record Changed (c : Call) (l k : Lent) (n : Numbers) : Type 0 where
  pub answered : (o : Option Message) → Held l o → n ≡ numbers (answer c (lengths l) o)
  pub left : (o : Option Message) → Held l o → k ≡ leaves l (answer c (lengths l) o)

-- `new`: refused, it hands back an empty record and writes nothing.
unfoldable pub makes : Lent → Out Message → Lent
makes l (accepted m) = laid_in l m
makes l (refused r) = record { message = empty_message; head = l.head; body = l.body }

pub record Made (t b : Bytes) (l k : Lent) (n : Numbers) : Type 0 where
  pub answered : n ≡ numbers (new t b (lengths l))
  pub left : k ≡ makes l (new t b (lengths l))

-- The record and the stores after an accepted reading. What lies past the message in the head store is not fixed: lines on the way may
-- have needed more.
pub record ReadInto (l k : Lent) (m : Message) : Type 0 where
  pub recorded : k.message ≡ record_of m
  pub laid : take (need m) k.head ≡ layout m
  pub kept : length k.head ≡ length l.head
  pub stored : k.body ≡ over_lent m.body l.body

-- A reading, by either reader of a header line: refused, it hands back an empty record and writes zeros over both stores.
abbrev pub ReadLeaves : Lent → Lent → Out Message → Type 0
ReadLeaves l k (accepted m) = ReadInto l k m
ReadLeaves l k (refused r) = k ≡ record { message = empty_message; head = zeroed l.head; body = zeroed_lent l.body }

pub record ParsedWith (reader : Bytes → Out Header) (t : Bytes) (l k : Lent) (n : Numbers) : Type 0 where
  pub answered : n ≡ numbers (read_with reader t (lengths l))
  pub left : ReadLeaves l k (read_with reader t (lengths l))

abbrev pub Parsed : Bytes → Lent → Lent → Numbers → Type 0
Parsed t l k n = ParsedWith read_header t l k n

-- `to_string`
pub record Wrote (l : Lent) (out written : Bytes) (n : Numbers) : Type 0 where
  pub answered : (o : Option Message) → Held l o → n ≡ numbers (to_text o (length out))
  pub left : (o : Option Message) → Held l o → written ≡ writes out (to_text o (length out))

-- A header alone and its store.
pub record LentHeader : Type 0 where
  pub header : CpimHeader
  pub store : Bytes

-- the record and the store once a header is laid into them
unfoldable pub laid_alone : Bytes → LoneHeader → LentHeader
laid_alone store h = record { header = header_of h; store = over (layout_alone h) store }

-- `CpimHeader::new`: refused, it hands back an empty record and writes nothing.
unfoldable pub makes_header : Bytes → Out LoneHeader → LentHeader
makes_header store (accepted h) = laid_alone store h
makes_header store (refused r) = record { header = empty_header; store = store }

pub record MadeHeader (v store : Bytes) (k : LentHeader) (n : Numbers) : Type 0 where
  pub answered : n ≡ numbers (new_header v (length store))
  pub left : k ≡ makes_header store (new_header v (length store))

-- `with_param`: refused, it changes nothing.
unfoldable pub leaves_header : LentHeader → Out LoneHeader → LentHeader
leaves_header l (accepted h) = laid_alone l.store h
leaves_header l (refused r) = l

pub record ParamSet (name value : Bytes) (l k : LentHeader) (n : Numbers) : Type 0 where
  pub answered : (o : Option LoneHeader) → HeldAlone l.header l.store o → n ≡ numbers (with_param name value (length l.store) o)
  pub left : (o : Option LoneHeader) → HeldAlone l.header l.store o → k ≡ leaves_header l (with_param name value (length l.store) o)

-- `add_header_obj`: the header store is lent to be read, and the header counts as what it holds.
pub record HeaderAdded (name : Bytes) (h : LentHeader) (l k : Lent) (n : Numbers) : Type 0 where
  pub added : (o : Option LoneHeader) → HeldAlone h.header h.store o → Changed (add_header_obj name o) l k n
