-- What a call has to show of whatever is held, by the test that it made: where the test fails nothing is held, where it passes a message
-- is. Assumes nothing.
use Prim.Native.Nat.{ℕ, ◌+◌, ◌≤◌, ◌<◌}
use mathlib.Core.Path.{◌≡◌, refl, ap}
use mathlib.Core.Bool.{true, false}
use mathlib.Core.Option.{Option, none, some}
use native.Mathlib.Omega.{arith}
use lib.ListN.{length, take, replicate, length-replicate}
use lib.Seq.{length-take-le}
use Rattle.format.specs.Bytes.{Bytes}
use Rattle.format.specs.Message.{LoneHeader, Message}
use Rattle.format.specs.Layout.{Lent, Held, message, nothing, HeldAlone, header, Holds, HoldsAlone}
use Rattle.format.specs.Lending.{head_lent, both_lent}
use Rattle.format.specs.declared.CpimMessage.{CpimMessage}
use Rattle.format.specs.declared.CpimHeader.{CpimHeader}
use Rattle.format.proofs.Lists.{clash}
use Rattle.format.proofs.Messages.Layout.{taken}
use Rattle.store_check.specs.Holding.{message_holds, header_holds}
use Rattle.store_check.specs.Decoding.{message_in, header_in}
use Rattle.store_check.proofs.HeldParts.{HeldParts, held_parts}
use Rattle.store_check.proofs.MessageHeld.{holds_held, held_holds}
use Rattle.store_check.proofs.HeaderHeld.{holds_alone_held, held_alone_holds}

module _ (P : Option Message → Type 0) (l : Lent) where
  -- nothing is held
  pub none_held : ((k : Message) → Holds l k → ⊥) → P none → (o : Option Message) → Held l o → P o
  none_held never p o (message {m = k} h) = absurd (never k h)
  none_held never p o (nothing f) = p

  -- some message is
  pub some_held : (k : Message) → Holds l k → ((k : Message) → Holds l k → P (some k)) → (o : Option Message) → Held l o → P o
  some_held k h p o (message {m = j} g) = p j g
  some_held k h p o (nothing f) = absurd (f k h)

module _ (m : CpimMessage) (head : Bytes) where
  -- the message read from the head store, where the body's bytes are free
  abbrev pub head_read : Message
  head_read = message_in m head (replicate m.bodylen 0)

  pub in_head : message_holds m head ≡ true → Holds (head_lent m head) head_read
  in_head h = held_holds m head (replicate m.bodylen 0) none h (length-replicate m.bodylen 0) tt

  pub head_parts : message_holds m head ≡ true → HeldParts (head_lent m head) head_read
  head_parts h = held_parts (head_lent m head) head_read (in_head h)

  -- its parts are within the head store
  pub used_within : message_holds m head ≡ true → 256 + (m.headerlen + m.contentlen) ≤ length head
  used_within h =
      let p = head_parts h in
      omega (arith, p.used, p.room)

  module _ (P : Option Message → Type 0) where
    pub not_held : (body : Option Bytes) → message_holds m head ≡ false → P none
        → (o : Option Message) → Held (record { message = m; head = head; body = body }) o → P o
    not_held body h =
        let l : Lent = record { message = m; head = head; body = body } in
        none_held P l (λ k w. clash (holds_held l k w) h)

    pub head_held : message_holds m head ≡ true → ((k : Message) → Holds (head_lent m head) k → P (some k)) → (o : Option Message) → Held (head_lent m head) o → P o
    head_held h = some_held P (head_lent m head) head_read (in_head h)

    -- with a body store, whose first bytes are the body
    pub body_held : (store : Bytes) → message_holds m head ≡ true → m.bodylen ≤ length store
        → ((k : Message) → Holds (both_lent m head store) k → P (some k)) → (o : Option Message) → Held (both_lent m head store) o → P o
    body_held store h fits =
        let e = length-take-le m.bodylen store fits in
        some_held P (both_lent m head store) (message_in m head (take m.bodylen store))
        (held_holds m head (take m.bodylen store) (some store) h e (ap (λ (n : ℕ). take n store) e))

    pub body_short_lem : (store : Bytes) → length store < m.bodylen → P none → (o : Option Message) → Held (both_lent m head store) o → P o
    body_short_lem store h =
        none_held P (both_lent m head store)
        (λ k w.
        let e = (held_parts (both_lent m head store) k w).bodylen in
        omega (arith, e, taken (length k.body) k.body store w.stored refl))

-- A header alone.
module _ (P : Option LoneHeader → Type 0) (r : CpimHeader) (store : Bytes) where
  pub alone_held : header_holds r store ≡ true → ((h : LoneHeader) → HoldsAlone r store h → P (some h)) → (o : Option LoneHeader) → HeldAlone r store o → P o
  alone_held h p o (header {h = k} w) = p k w
  alone_held h p o (nothing f) = absurd (f (header_in r store) (held_alone_holds r store h))

  pub alone_not_held : header_holds r store ≡ false → P none → (o : Option LoneHeader) → HeldAlone r store o → P o
  alone_not_held h p o (header {h = k} w) = clash (holds_alone_held r store k w) h
  alone_not_held h p o (nothing f) = p
