-- Document 01, "The message and its calls": a run of changing calls, of which each gets the record that the last handed back and the
-- stores it takes, as last left. Assumes nothing.
use Rattle.std.specs.Prelude.{◌≡◌, Bool, true, false, List, [], ◌∷◌}
use Rattle.std.proofs.Math.Option.{none, some}
use Rattle.format.specs.Bytes.{Bytes}
use Rattle.format.specs.Calls.{Call, Lends, body_store, header_store, head_alone, lends}
use Rattle.format.specs.Layout.{Lent, HeldAlone}
use Rattle.format.specs.Lending.{LentHeader, Changed, HeaderAdded}
use Rattle.format.specs.declared.Numbers.{Numbers}
use Rattle.format.specs.declared.CpimMessage.{CpimMessage}

-- The record and both stores between two calls.
pub record State : Type 0 where
  pub message : CpimMessage
  pub head : Bytes
  pub body : Bytes

-- what is lent of a state: both stores, or the head store alone
abbrev pub lend : Bool → State → Lent
lend true s = record { message = s.message; head = s.head; body = some s.body }
lend false s = record { message = s.message; head = s.head; body = none }

-- which calls are lent the body store
unfoldable pub is_body : Lends → Bool
is_body body_store = true
is_body (header_store n o) = false
is_body head_alone = false

abbrev pub takes_body : Call → Bool
takes_body c = is_body (lends c)

-- What the call ensures of what it is lent and leaves. A header handed in counts as what its record and store hold.
abbrev pub Ensured : Lends → Call → Lent → Lent → Numbers → Type 0
Ensured body_store c l k n = Changed c l k n
Ensured (header_store name o) c l k n = (h : LentHeader) × HeldAlone h.header h.store o × HeaderAdded name h l k n
Ensured head_alone c l k n = Changed c l k n

-- A run of calls, refused ones among them; nobody else writes the stores meanwhile.
pub data Run : State → List Call → State → Type 0 where
  done : {s : State} → Run s [] s
  step : {c : Call} {cs : List Call} {s t u : State} (n : Numbers) →
      Ensured (lends c) c (lend (takes_body c) s) (lend (takes_body c) t) n →
      (takes_body c ≡ false → t.body ≡ s.body) →
      Run t cs u →
      Run s (c ∷ cs) u
