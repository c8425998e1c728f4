-- A message in lent stores. Document 01 leaves the layout free and fixes the message in it; this is the layout taken: the type in the
-- first 256 bytes of the head store, padded with zeros, the headers, the content headers, in map order, in exactly the need in bytes.
-- An entry is 16 bytes of numbers, its name, its value and its parameters. Assumes nothing.
use Rattle.std.specs.Prelude.{ℕ, ◌-◌, ◌/◌, ◌%◌, ◌≡◌, true, [], ◌∷◌, ◌++◌, length, take, replicate}
use Rattle.std.proofs.Math.Option.{Option, none, some}
use Rattle.format.specs.Bytes.{Bytes, texts, total}
use Rattle.format.specs.Message.{Entry, LoneHeader, Header, Message, need_entry, need_header, need, need_alone, valid, valid_alone}
use Rattle.format.specs.declared.CpimMessage.{CpimMessage}
use Rattle.format.specs.declared.CpimHeader.{CpimHeader}

-- The numbers of an entry, 16 bytes: length of the name, of the value (two bytes, low first), count of parameters, their length (two bytes), ten zeros
unfoldable pub fixed : ℕ → ℕ → ℕ → ℕ → Bytes
fixed n v k t = n ∷ (v % 256) ∷ (v / 256) ∷ k ∷ (t % 256) ∷ (t / 256) ∷ replicate 10 0

-- an entry: its numbers, name, value, and behind them the bytes of its parameters
unfoldable pub entry_bytes : Bytes → Bytes → ℕ → Bytes → Bytes
entry_bytes n v k tail = fixed (length n) (length v) k (length tail) ++ (n ++ (v ++ tail))

-- a parameter or a content header
unfoldable pub layout_entry : Entry → Bytes
layout_entry e = entry_bytes e.name e.value 0 []

-- a header with its parameters
unfoldable pub layout_header : Header → Bytes
layout_header h = entry_bytes h.name h.value (length h.params) (texts layout_entry h.params)

-- the head store's first bytes, as many as the need
unfoldable pub layout : Message → Bytes
layout m =
    m.type ++ (replicate (256 - length m.type) 0 ++ (texts layout_header m.headers ++ texts layout_entry m.contents))

-- the record of a message
unfoldable pub record_of : Message → CpimMessage
record_of m =
    record {
      typelen = length m.type;
      headers = length m.headers;
      headerlen = total need_header m.headers;
      contents = length m.contents;
      contentlen = total need_entry m.contents;
      bodylen = length m.body;
    }

-- a header alone: 16 zeros, the value, the parameters
unfoldable pub layout_alone : LoneHeader → Bytes
layout_alone h = replicate 16 0 ++ (h.value ++ texts layout_entry h.params)

-- the record of a header alone
unfoldable pub header_of : LoneHeader → CpimHeader
header_of h = record { valuelen = length h.value; params = length h.params; size = need_alone h }

-- no type, no entry, body length 0: the empty record, which holds nothing
abbrev pub empty_message : CpimMessage
empty_message = record { typelen = 0; headers = 0; headerlen = 0; contents = 0; contentlen = 0; bodylen = 0 }

abbrev pub empty_header : CpimHeader
empty_header = record { valuelen = 0; params = 0; size = 0 }

-- A message's record and the stores lent with it; a call that takes the head store alone is lent no body store.
pub record Lent : Type 0 where
  pub message : CpimMessage
  pub head : Bytes
  pub body : Option Bytes

-- the body stands at its store's start, where that store is lent
abbrev pub BodyAt : Option Bytes → Bytes → Type 0
BodyAt none b = Unit {0}
BodyAt (some store) b = take (length b) store ≡ b

-- Record and stores hold the message m. (Where no body store is lent the body's bytes are free.)
pub record Holds (l : Lent) (m : Message) : Type 0 where
  pub within : valid m ≡ true
  pub recorded : l.message ≡ record_of m
  pub laid : take (need m) l.head ≡ layout m
  pub stored : BodyAt l.body m.body

-- Record and store hold the header h alone.
pub record HoldsAlone (r : CpimHeader) (store : Bytes) (h : LoneHeader) : Type 0 where
  pub within : valid_alone h ≡ true
  pub recorded : r ≡ header_of h
  pub laid : take (need_alone h) store ≡ layout_alone h

-- What record and stores hold: a message, or nothing.
pub data Held (l : Lent) : Option Message → Type 0 where
  message : {m : Message} → Holds l m → Held l (some m)
  nothing : ((m : Message) → Holds l m → ⊥) → Held l none

-- What a header's record and store hold: a header alone, or nothing.
pub data HeldAlone (r : CpimHeader) (store : Bytes) : Option LoneHeader → Type 0 where
  header : {h : LoneHeader} → HoldsAlone r store h → HeldAlone r store (some h)
  nothing : ((h : LoneHeader) → HoldsAlone r store h → ⊥) → HeldAlone r store none
