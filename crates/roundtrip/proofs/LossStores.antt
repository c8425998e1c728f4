-- The parts of a message in the stores that hold it, as its loss is asked of them. Assumes nothing.
use Prim.Native.Nat.{ℕ, ◌+◌, ◌-◌, ◌≤◌, ◌<◌}
use mathlib.Core.Path.{◌≡◌, refl, sym, ap, ◌∙◌}
use mathlib.Core.Bool.{true, false}
use mathlib.Core.List.{List}
use mathlib.Core.Option.{Option, some}
use native.Mathlib.Omega.{arith}
use lib.ListN.{length, take, drop, replicate}
use lib.Seq.{take_at, take-take}
use Rattle.format.specs.Bytes.{Bytes, all}
use Rattle.format.specs.Message.{Entry, Header, Message}
use Rattle.format.specs.Layout.{layout_entry, layout_header, Holds, Held}
use Rattle.format.specs.Lending.{both_lent}
use Rattle.format.specs.declared.CpimMessage.{CpimMessage}
use Rattle.format.specs.declared.Manner.{Manner}
use Rattle.store_entries.specs.Stored.{shaped_all, entries_in}
use Rattle.lookup_nth.specs.Listed.{Listed}
use Rattle.store_check.specs.Holding.{message_holds}
use Rattle.store_check.proofs.HeldParts.{HeldParts, part_of, held_parts}
use Rattle.store_check.proofs.HeldCases.{head_read, head_parts, not_held, body_held, body_short_lem}
use Rattle.roundtrip.specs.declared.Loss.{Loss}
use Rattle.roundtrip.specs.Clauses.{params_stand}
use Rattle.roundtrip.specs.Loss.{lost, none_lost, early, late, loss_by, loss_held_by}
use Rattle.roundtrip.proofs.CountPassing.{stored_stand}
use Rattle.roundtrip.proofs.Lossless.{early_passes, early_stops}

-- a part from the start
from_start : (n : ℕ) (s : Bytes) → take (n - 0) (drop 0 s) ≡ take n s
from_start n s =
    let e : n - 0 ≡ n = omega arith in
    ap (λ (i : ℕ). take i s) e

-- Nothing is held.
module _ (r : Manner) (m : CpimMessage) (head body : Bytes) where
  pub none_held : message_holds m head ≡ false → (o : Option Message) → Held (both_lent m head body) o → lost 9 0 ≡ loss_held_by r o
  none_held h = not_held m head (λ o. lost 9 0 ≡ loss_held_by r o) (some body) h refl

  pub short_held : length body < m.bodylen → (o : Option Message) → Held (both_lent m head body) o → lost 9 0 ≡ loss_held_by r o
  short_held h = body_short_lem m head (λ o. lost 9 0 ≡ loss_held_by r o) body h refl

-- The parts of a head store that holds a message.
module _ (m : CpimMessage) (head : Bytes) (h : message_holds m head ≡ true) where
  abbrev headers_at_lem : Bytes
  headers_at_lem = take (256 + m.headerlen - 256) (drop 256 head)

  abbrev contents_at_lem : Bytes
  contents_at_lem = take (256 + m.headerlen + m.contentlen - (256 + m.headerlen)) (drop (256 + m.headerlen) head)

  pub type_within : m.typelen ≤ length head
  type_within = omega (arith, (head_parts m head h).typelen, (head_parts m head h).type_short, (head_parts m head h).used, (head_parts m head h).room)

  pub headers_in_order : shaped_all m.headers headers_at_lem ≡ true
  headers_in_order = ap (shaped_all m.headers) (part_of 256 m.headerlen head) ∙ (head_parts m head h).headers_shaped

  pub contents_in_order : shaped_all m.contents contents_at_lem ≡ true
  contents_in_order = ap (shaped_all m.contents) (part_of (256 + m.headerlen) m.contentlen head) ∙ (head_parts m head h).contents_shaped

  pub params_in_order : all params_stand (entries_in m.headers headers_at_lem) ≡ true
  params_in_order =
      ap (λ (s : Bytes). all params_stand (entries_in m.headers s)) (part_of 256 m.headerlen head)
      ∙ ap (all params_stand) (head_parts m head h).headers_in
      ∙ stored_stand (head_read m head).headers

  module _ (r : Manner) (body : Bytes) (fits : m.bodylen ≤ length body) (first : Loss)
      (asked : (xs : List Header) (ys : List Entry) → Listed layout_header xs headers_at_lem m.headers → Listed layout_entry ys contents_at_lem m.contents
      → first ≡ early r xs ys (take (m.bodylen - 0) (drop 0 body)) none_lost) where
    module _ (k : Message) (held : Holds (both_lent m head body) k) where
      of : HeldParts (both_lent m head body) k
      of = held_parts (both_lent m head body) k held

      headers_are : Listed layout_header k.headers headers_at_lem m.headers
      headers_are = record { bytes = part_of 256 m.headerlen head ∙ of.headers_part_lem; entries = of.headers }

      contents_are : Listed layout_entry k.contents contents_at_lem m.contents
      contents_are = record { bytes = part_of (256 + m.headerlen) m.contentlen head ∙ of.contents_part_lem; entries = of.contents }

      body_is : take (m.bodylen - 0) (drop 0 body) ≡ k.body
      body_is = from_start m.bodylen body ∙ ap (λ (n : ℕ). take n body) of.bodylen ∙ held.stored

      type_is : take (m.typelen - 0) (drop 0 head) ≡ k.type
      type_is =
          from_start m.typelen head
          ∙ sym (take-take m.typelen 256 head (omega (arith, of.typelen, of.type_short)))
          ∙ ap (take m.typelen) of.type_part_lem
          ∙ take_at k.type (replicate (256 - length k.type) 0) m.typelen (sym of.typelen)

      first_is : first ≡ early r k.headers k.contents k.body none_lost
      first_is = asked k.headers k.contents headers_are contents_are ∙ ap (λ (b : Bytes). early r k.headers k.contents b none_lost) body_is

    -- one of the first four clauses fails
    pub first_lost : (first.clause ≡ 0 → ⊥) → (o : Option Message) → Held (both_lent m head body) o → first ≡ loss_held_by r o
    unfolding loss_by
    first_lost ne =
        body_held m head (λ o. first ≡ loss_held_by r o) body h fits
        (λ k held.
        let e = first_is k held in
        e ∙ sym (early_stops r k.headers k.contents k.body (late r k.headers k.contents k.type) (λ z. ne (ap (λ (x : Loss). x.clause) e ∙ z))))

    -- they hold, and the others say
    pub others_say : first.clause ≡ 0 → (second : Loss)
        → ((xs : List Header) (ys : List Entry) → Listed layout_header xs headers_at_lem m.headers → Listed layout_entry ys contents_at_lem m.contents
        → second ≡ late r xs ys (take (m.typelen - 0) (drop 0 head)))
        → (o : Option Message) → Held (both_lent m head body) o → second ≡ loss_held_by r o
    unfolding loss_by
    others_say z second told =
        body_held m head (λ o. second ≡ loss_held_by r o) body h fits
        (λ k held.
        let e = first_is k held in
        told k.headers k.contents (headers_are k held) (contents_are k held)
        ∙ ap (late r k.headers k.contents) (type_is k held)
        ∙ sym (early_passes r k.headers k.contents k.body (late r k.headers k.contents k.type) (sym (ap (λ (x : Loss). x.clause) e) ∙ z)))
