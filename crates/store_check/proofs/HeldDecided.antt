-- What record and stores hold, for any numbers and bytes: the tests of specs/Holding.antt decide it. With a body store lent a message
-- is held exactly where the head store passes and the body's bytes are there. Assumes nothing.
use Prim.Native.Nat.{ℕ, ◌≤◌, ◌<◌}
use mathlib.Core.Path.{◌≡◌, refl, ap}
use mathlib.Core.Bool.{true, false}
use mathlib.Core.Logic.{⊎_elim}
use mathlib.Core.Option.{Option, none, some}
use native.Mathlib.Omega.{arith}
use lib.Dec.{leb}
use lib.ListN.{length, take, replicate, length-replicate}
use lib.Seq.{length-take-le}
use borrow.Author.Tests.{leb-true, leb-false}
use Rattle.format.specs.Bytes.{Bytes}
use Rattle.format.specs.Message.{LoneHeader, Message}
use Rattle.format.specs.Layout.{Lent, Held, message, nothing, HeldAlone, header, Holds}
use Rattle.format.specs.declared.CpimMessage.{CpimMessage}
use Rattle.format.specs.declared.CpimHeader.{CpimHeader}
use Rattle.format.proofs.Lists.{bcase, clash}
use Rattle.format.proofs.Messages.Layout.{taken}
use Rattle.store_check.specs.Holding.{message_holds, header_holds}
use Rattle.store_check.specs.Decoding.{message_in, header_in}
use Rattle.store_check.proofs.HeldParts.{held_parts}
use Rattle.store_check.proofs.MessageHeld.{holds_held, held_holds}
use Rattle.store_check.proofs.HeaderHeld.{holds_alone_held, held_alone_holds}

module _ (m : CpimMessage) (head : Bytes) where
  -- no body store is lent: the body's bytes are free
  pub held_head : (b : Bytes) → message_holds m head ≡ true → length b ≡ m.bodylen
      → Held (record { message = m; head = head; body = none }) (some (message_in m head b))
  held_head b h e = message (held_holds m head b none h e tt)

  -- a body store is lent, and the body is there
  pub held_body : (store : Bytes) → message_holds m head ≡ true → m.bodylen ≤ length store
      → Held (record { message = m; head = head; body = some store }) (some (message_in m head (take m.bodylen store)))
  held_body store h fits =
      let e = length-take-le m.bodylen store fits in
      message (held_holds m head (take m.bodylen store) (some store) h e (ap (λ (n : ℕ). take n store) e))

  -- the head store does not pass
  pub held_nothing : (body : Option Bytes) → message_holds m head ≡ false → Held (record { message = m; head = head; body = body }) none
  held_nothing body h = nothing (λ k a. clash (holds_held (record { message = m; head = head; body = body }) k a) h)

  -- the body store is too short
  pub held_short : (store : Bytes) → length store < m.bodylen → Held (record { message = m; head = head; body = some store }) none
  held_short store h = nothing (λ k a. long k a)
    where
      long : (k : Message) → Holds (record { message = m; head = head; body = some store }) k → ⊥
      long k a =
          let e = (held_parts (record { message = m; head = head; body = some store }) k a).bodylen in
          omega (arith, e, taken (length k.body) k.body store a.stored refl)

  -- as it is lent
  held_lent : (body : Option Bytes) → message_holds m head ≡ true → (o : Option Message) × Held (record { message = m; head = head; body = body }) o
  held_lent none h = (some (message_in m head (replicate m.bodylen 0)), held_head (replicate m.bodylen 0) h (length-replicate m.bodylen 0))
  held_lent (some store) h =
      ⊎_elim
      (λ e. (some (message_in m head (take m.bodylen store)), held_body store h (leb-true m.bodylen (length store) e)))
      (λ e. (none, held_short store (leb-false m.bodylen (length store) e)))
      (bcase (leb m.bodylen (length store)))

pub held_total : (l : Lent) → (o : Option Message) × Held l o
held_total l =
    ⊎_elim
    (λ h. held_lent l.message l.head l.body h)
    (λ h. (none, held_nothing l.message l.head l.body h))
    (bcase (message_holds l.message l.head))

-- A header alone.
module _ (r : CpimHeader) (store : Bytes) where
  pub held_alone_lem : header_holds r store ≡ true → HeldAlone r store (some (header_in r store))
  held_alone_lem h = header (held_alone_holds r store h)

  pub held_alone_nothing : header_holds r store ≡ false → HeldAlone r store none
  held_alone_nothing h = nothing (λ k a. clash (holds_alone_held r store k a) h)

  pub held_alone_total : (o : Option LoneHeader) × HeldAlone r store o
  held_alone_total =
      ⊎_elim (λ h. (some (header_in r store), held_alone_lem h)) (λ h. (none, held_alone_nothing h)) (bcase (header_holds r store))
