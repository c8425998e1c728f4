-- Type and body of a message in the stores that hold it, handed out. Where the test fails nothing is held and nothing is handed out.
-- Assumes nothing.
use Prim.Native.Nat.{ℕ, ◌-◌, ◌≤◌, ◌<◌}
use mathlib.Core.Path.{◌≡◌, refl, sym, ap, ◌∙◌}
use mathlib.Core.Bool.{true, false}
use mathlib.Core.Option.{Option, none, some}
use native.Mathlib.Omega.{arith}
use lib.ListN.{length, take, replicate}
use lib.Seq.{take_at, take-take}
use Rattle.format.specs.Bytes.{Bytes}
use Rattle.format.specs.Characters.{is_utf8}
use Rattle.format.specs.Message.{Message}
use Rattle.format.specs.Layout.{Holds, Held}
use Rattle.format.specs.Lending.{head_lent, both_lent}
use Rattle.format.specs.LookingUp.{get_type, get_body, body_as_str}
use Rattle.format.specs.declared.CpimMessage.{CpimMessage}
use Rattle.store_check.specs.Holding.{message_holds}
use Rattle.store_check.proofs.HeldParts.{held_parts}
use Rattle.store_check.proofs.HeldCases.{head_parts, not_held, head_held, body_held, body_short_lem}

pub type_at : (l : CpimMessage) (head : Bytes) (k : Message) → Holds (head_lent l head) k → take l.typelen head ≡ k.type
type_at m head k held =
    let p = held_parts (head_lent m head) k held in
    sym (take-take m.typelen 256 head (omega (arith, p.typelen, p.type_short)))
    ∙ ap (take m.typelen) p.type_part_lem
    ∙ take_at k.type (replicate (256 - length k.type) 0) m.typelen (sym p.typelen)

pub body_at : (m : CpimMessage) (head store : Bytes) (k : Message) → Holds (both_lent m head store) k → take m.bodylen store ≡ k.body
body_at m head store k held =
    ap (λ (n : ℕ). take n store) (held_parts (both_lent m head store) k held).bodylen ∙ held.stored

-- Where nothing is held.
module _ (m : CpimMessage) (head : Bytes) (h : message_holds m head ≡ false) where
  pub no_type : (o : Option Message) → Held (head_lent m head) o → none ≡ get_type o
  unfolding get_type
  no_type = not_held m head (λ o. none ≡ get_type o) none h refl

  pub no_body : (store : Bytes) (o : Option Message) → Held (both_lent m head store) o → none ≡ get_body o
  unfolding get_body
  no_body store = not_held m head (λ o. none ≡ get_body o) (some store) h refl

-- Where a message is held.
module _ (m : CpimMessage) (head : Bytes) (h : message_holds m head ≡ true) where
  pub type_within : m.typelen ≤ length head
  type_within = omega (arith, (head_parts m head h).typelen, (head_parts m head h).type_short, (head_parts m head h).used, (head_parts m head h).room)

  pub type_is : (o : Option Message) → Held (head_lent m head) o → some (take m.typelen head) ≡ get_type o
  unfolding get_type
  type_is = head_held m head (λ o. some (take m.typelen head) ≡ get_type o) h (λ k held. ap (λ (b : Bytes). some b) (type_at m head k held))

  pub body_is : (store : Bytes) → m.bodylen ≤ length store → (o : Option Message) → Held (both_lent m head store) o → some (take m.bodylen store) ≡ get_body o
  unfolding get_body
  body_is store fits =
      body_held m head (λ o. some (take m.bodylen store) ≡ get_body o) store h fits (λ k held. ap (λ (b : Bytes). some b) (body_at m head store k held))

-- the body store is too short
pub body_lacks : (m : CpimMessage) (head store : Bytes) → length store < m.bodylen → (o : Option Message) → Held (both_lent m head store) o → none ≡ get_body o
unfolding get_body
body_lacks m head store short = body_short_lem m head (λ o. none ≡ get_body o) store short refl

-- whether there is a body that is UTF-8
pub no_str : (o : Option Message) → none ≡ get_body o → false ≡ body_as_str o
unfolding get_body body_as_str
no_str none e = refl
no_str (some k) e = cc

pub str_is : (o : Option Message) (r : Bytes) → some r ≡ get_body o → is_utf8 r ≡ body_as_str o
unfolding get_body body_as_str
str_is none r e = cc
str_is (some k) r e =
    let same : r ≡ k.body = cc in
    ap is_utf8 same
