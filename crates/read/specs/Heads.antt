-- A reading that leaves the body where it stands, by either reader of a header line: record, head store and refusals are those of a reading
-- with room for every body, so 26 never comes (`never_short` in proofs/NeverShort.antt), and 23 comes where it always does. Assumes nothing.
use Rattle.std.specs.Prelude.{ℕ, ◌-◌, ◌≡◌, Bool, true, false, Result, Ok, Err, None, is_some, length, drop, if◌then◌else◌}
use Rattle.std.specs.Prelude as std
use Rattle.std.specs.Option.{unwrap_or}
use Rattle.format.specs.Bytes.{Bytes}
use Rattle.format.specs.Limits.{max_body}
use Rattle.format.specs.Refusals.{Out, accepted, refused, numbers}
use Rattle.format.specs.Message.{Header, Message}
use Rattle.format.specs.Calls.{Stores}
use Rattle.format.specs.Reading.{read_header, read_with}
use Rattle.format.specs.LookingUp.{stands_in_text}
use Rattle.format.specs.Layout.{Lent, empty_message}
use Rattle.format.specs.Lending.{ReadLeaves}
use Rattle.format.specs.declared.Numbers.{Numbers}
use Rattle.format.specs.Told.{told}
use Rattle.format.specs.declared.CpimMessage.{CpimMessage}
use Rattle.format.specs.declared.refusal.Refusal.{Refusal}
use Rattle.read.specs.declared.Head.{Head}

-- a head store of so many bytes, and room for every body that 23 lets pass
unfoldable pub any_body : ℕ → Stores
any_body head = record { head = head; body = max_body }

-- a reading by any reader of a header line, with such stores
unfoldable pub read_head_with : (Bytes → Out Header) → Bytes → ℕ → Out Message
read_head_with reader t head = read_with reader t (any_body head)

-- `parse_head`
abbrev pub read_head : Bytes → ℕ → Out Message
read_head t head = read_head_with read_header t head

-- The body stands in the text under CRLFCRLF, whose end it is; else, and where the reading is refused, it stands nowhere.
unfoldable pub stands_in : Bytes → Out Message → Bool
stands_in t (accepted m) = stands_in_text t
stands_in t (refused r) = false

unfoldable pub start_of : Bytes → Out Message → ℕ
start_of t (accepted m) = if stands_in_text t then length t - length m.body else 0
start_of t (refused r) = 0

-- What such a reading ensures: l is what it is lent, k what it leaves, n the numbers that it answers, and whether and where it says that the
-- body stands in the text.
pub record HeadRead (reader : Bytes → Out Header) (t : Bytes) (l k : Lent) (n : Numbers) (in_text : Bool) (start : ℕ) : Type 0 where
  pub answered : n ≡ numbers (read_head_with reader t (length l.head))
  pub left : ReadLeaves l k (read_head_with reader t (length l.head))
  pub inside : in_text ≡ stands_in t (read_head_with reader t (length l.head))
  pub begins : start ≡ start_of t (read_head_with reader t (length l.head))
  -- what stands there is the body
  pub there : (m : Message) → read_head_with reader t (length l.head) ≡ accepted m → stands_in_text t ≡ true → drop start t ≡ m.body

-- the record that a result hands back, and where it says that the body stands
abbrev pub message_in : Result Head Refusal → CpimMessage
message_in (Ok h) = h.message
message_in (Err r) = empty_message

abbrev pub body_in : Result Head Refusal → std.Option ℕ
body_in (Ok h) = h.body
body_in (Err r) = None

-- the same of a result
abbrev pub HeadParsedWith : (Bytes → Out Header) → Bytes → Lent → Lent → Result Head Refusal → Type 0
HeadParsedWith reader t l k r = HeadRead reader t l k (told r) (is_some (body_in r)) (unwrap_or (body_in r) 0)

abbrev pub HeadParsed : Bytes → Lent → Lent → Result Head Refusal → Type 0
HeadParsed t l k r = HeadParsedWith read_header t l k r
