-- The parts of what is held where they stand, by the test that was made. Assumes nothing.
use Prim.Native.Nat.{ℕ, ◌+◌, ◌-◌, ◌≤◌, ◌<◌}
use mathlib.Core.Path.{◌≡◌, sym}
use mathlib.Core.Bool.{true, false}
use mathlib.Core.List.{List}
use mathlib.Core.Option.{Option, none, some}
use native.Mathlib.Omega.{arith}
use lib.ListN.{length, take, drop}
use Rattle.format.specs.Bytes.{Bytes}
use Rattle.format.specs.Message.{Entry, LoneHeader, Message}
use Rattle.format.specs.Layout.{layout_entry, Held, HeldAlone}
use Rattle.format.specs.Lending.{head_lent, both_lent}
use Rattle.format.specs.LookingUp.{nth, get_type, get_body, get_content, alone_value, alone_param}
use Rattle.format.specs.declared.CpimMessage.{CpimMessage}
use Rattle.format.specs.declared.CpimHeader.{CpimHeader}
use Rattle.store_entries.specs.Stored.{shaped_all}
use Rattle.store_check.specs.Holding.{message_holds, header_holds}
use Rattle.store_check.proofs.HeldParts.{held_parts, alone_parts}
use Rattle.store_check.proofs.HeldCases.{used_within, not_held, head_held, body_held, body_short_lem, alone_held, alone_not_held}
use Rattle.store_check.proofs.HeldDecided.{held_total, held_alone_total}
use Rattle.lookup_nth.specs.Listed.{Listed}
use Rattle.lookup_nth.proofs.NthElement.{entries_shaped}
use Rattle.lookup.proofs.TypeAndBody.{type_at, body_at, type_within}
use Rattle.lookup.specs.OfHeld.{contents_held}
use Rattle.lookup.proofs.ContentsHeld.{contents_listed}
use Rattle.lookup.specs.OfHeld.{params_held}
use Rattle.lookup.proofs.LoneHeader.{value_within, size_within, params_listed}
use Rattle.lookup_places.specs.Spots.{no_part, no_pair, PartIs, PairIs, entry_place}
use Rattle.lookup_places.specs.declared.spots.Pair.{Pair}
use Rattle.lookup_places.proofs.EntryPlaces.{part_there, part_absent, pair_none}
use Rattle.lookup_places.specs.Standing.{content_place, alone_param_place}

-- Where no message is held.
module _ (m : CpimMessage) (head : Bytes) (h : message_holds m head ≡ false) where
  pub no_type : (o : Option Message) → Held (head_lent m head) o → PartIs head 0 (get_type o) no_part
  unfolding get_type
  no_type = not_held m head (λ o. PartIs head 0 (get_type o) no_part) none h (part_absent head 0)

  pub no_body : (store : Bytes) (o : Option Message) → Held (both_lent m head store) o → PartIs store 0 (get_body o) no_part
  unfolding get_body
  no_body store = not_held m head (λ o. PartIs store 0 (get_body o) no_part) (some store) h (part_absent store 0)

  pub no_content : (n : ℕ) (o : Option Message) → Held (head_lent m head) o → PairIs head (content_place o n) (get_content o n) no_pair
  unfolding get_content
  no_content n = not_held m head (λ o. PairIs head (content_place o n) (get_content o n) no_pair) none h (pair_none head (content_place none n))

pub body_lacks : (m : CpimMessage) (head store : Bytes) → length store < m.bodylen
    → (o : Option Message) → Held (both_lent m head store) o → PartIs store 0 (get_body o) no_part
unfolding get_body
body_lacks m head store short = body_short_lem m head (λ o. PartIs store 0 (get_body o) no_part) store short (part_absent store 0)

-- Where one is.
module _ (m : CpimMessage) (head : Bytes) (h : message_holds m head ≡ true) where
  pub type_there : (o : Option Message) → Held (head_lent m head) o → PartIs head 0 (get_type o) (record { found = true; start = 0; length = m.typelen })
  unfolding get_type
  type_there =
      head_held m head (λ o. PartIs head 0 (get_type o) (record { found = true; start = 0; length = m.typelen })) h
      (λ k held. part_there head 0 m.typelen k.type (omega (arith, type_within m head h)) (type_at m head k held))

  pub body_there : (store : Bytes) → m.bodylen ≤ length store → (o : Option Message) → Held (both_lent m head store) o
      → PartIs store 0 (get_body o) (record { found = true; start = 0; length = m.bodylen })
  unfolding get_body
  body_there store fits =
      body_held m head (λ o. PartIs store 0 (get_body o) (record { found = true; start = 0; length = m.bodylen })) store h fits
      (λ k held. part_there store 0 m.bodylen k.body (omega arith) (body_at m head store k held))

  pub contents_within : 256 + m.headerlen + m.contentlen ≤ length head
  contents_within = omega (arith, used_within m head h)

  pub contents_shaped : shaped_all m.contents (take (256 + m.headerlen + m.contentlen - (256 + m.headerlen)) (drop (256 + m.headerlen) head)) ≡ true
  contents_shaped =
      let held = held_total (head_lent m head) in
      entries_shaped (contents_held held.0) _ _ (contents_listed m head h held.0 held.1)

  pub content_there : (n : ℕ) (p : Pair)
      → ((es : List Entry) → Listed layout_entry es (take (256 + m.headerlen + m.contentlen - (256 + m.headerlen)) (drop (256 + m.headerlen) head)) m.contents
      → PairIs head (entry_place (256 + m.headerlen) es n) (nth n es) p)
      → (o : Option Message) → Held (head_lent m head) o → PairIs head (content_place o n) (get_content o n) p
  unfolding get_content content_place
  content_there n p f o held =
      head_held m head (λ o. Listed layout_entry (contents_held o) (take (256 + m.headerlen + m.contentlen - (256 + m.headerlen)) (drop (256 + m.headerlen) head)) m.contents → PairIs head (content_place o n) (get_content o n) p) h
      (λ k w l. rw (sym (held_parts (head_lent m head) k w).headerlen) (f k.contents l)) o held (contents_listed m head h o held)

-- A header alone.
module _ (r : CpimHeader) (store : Bytes) where
  pub no_value : header_holds r store ≡ false → (o : Option LoneHeader) → HeldAlone r store o → PartIs store 16 (alone_value o) no_part
  unfolding alone_value
  no_value h = alone_not_held (λ o. PartIs store 16 (alone_value o) no_part) r store h (part_absent store 16)

  pub no_param_lem : header_holds r store ≡ false → (n : ℕ) (o : Option LoneHeader) → HeldAlone r store o → PairIs store (alone_param_place o n) (alone_param o n) no_pair
  unfolding alone_param
  no_param_lem h n = alone_not_held (λ o. PairIs store (alone_param_place o n) (alone_param o n) no_pair) r store h (pair_none store (alone_param_place none n))

  module _ (h : header_holds r store ≡ true) where
    pub params_within : (16 + r.valuelen ≤ r.size) × (r.size ≤ length store)
    params_within = (value_within r store h, size_within r store h)

    pub value_there : (o : Option LoneHeader) → HeldAlone r store o → PartIs store 16 (alone_value o) (record { found = true; start = 16; length = r.valuelen })
    unfolding alone_value
    value_there =
        alone_held (λ o. PartIs store 16 (alone_value o) (record { found = true; start = 16; length = r.valuelen })) r store h
        (λ k w. part_there store 16 r.valuelen k.value (omega (arith, params_within.0, params_within.1)) (alone_parts r store k w).value_part_lem)

    pub params_shaped : shaped_all r.params (take (r.size - (16 + r.valuelen)) (drop (16 + r.valuelen) store)) ≡ true
    params_shaped = alone_held (λ o. shaped_all r.params (take (r.size - (16 + r.valuelen)) (drop (16 + r.valuelen) store)) ≡ true) r store h (λ k w. (alone_parts r store k w).params_shaped) _ (held_alone_total r store).1

    pub param_there : (n : ℕ) (p : Pair)
        → ((es : List Entry) → Listed layout_entry es (take (r.size - (16 + r.valuelen)) (drop (16 + r.valuelen) store)) r.params
        → PairIs store (entry_place (16 + r.valuelen) es n) (nth n es) p)
        → (o : Option LoneHeader) → HeldAlone r store o → PairIs store (alone_param_place o n) (alone_param o n) p
    unfolding alone_param alone_param_place
    param_there n p f o held =
        alone_held (λ o. Listed layout_entry (params_held o) (take (r.size - (16 + r.valuelen)) (drop (16 + r.valuelen) store)) r.params → PairIs store (alone_param_place o n) (alone_param o n) p) r store h
        (λ k w l. rw (sym (alone_parts r store k w).valuelen) (f k.params l)) o held (params_listed r store h o held)
