-- The ways out of `header_place`. The headers of a name stand together, and the n-th behind the first n of them. Assumes nothing.
use Prim.Native.Nat.{ℕ, ◌+◌, ◌-◌, ◌≤◌, ◌<◌}
use mathlib.Core.Path.{◌≡◌, refl, sym, ap, ◌∙◌, subst}
use mathlib.Core.Bool.{true, false}
use mathlib.Core.List.{List}
use mathlib.Core.Option.{Option, none, some}
use native.Mathlib.Omega.{arith}
use lib.ListN.{length, take, drop}
use Rattle.format.specs.Bytes.{Bytes, total}
use Rattle.format.specs.Characters.{is_utf8}
use Rattle.format.specs.Message.{Header, Message, name_of, only, need_header}
use Rattle.format.specs.Layout.{layout_header, Holds, Held}
use Rattle.format.specs.Lending.{head_lent}
use Rattle.format.specs.LookingUp.{nth, nth_header}
use Rattle.format.specs.declared.CpimMessage.{CpimMessage}
use Rattle.format.proofs.Messages.Layout.{layout_header_length}
use Rattle.store_entries.specs.Stored.{stored_size, stored_header, shaped_all, entries_in}
use Rattle.store_entries.proofs.Layouts.{header_bytes, header_size_lem}
use Rattle.store_entries.specs.Groups.{Grouped}
use Rattle.store_check.specs.Holding.{message_holds}
use Rattle.store_check.proofs.HeldCases.{not_held, head_held}
use Rattle.store_check.proofs.HeldDecided.{held_total}
use Rattle.lookup_nth.specs.Listed.{Listed}
use Rattle.lookup_nth.proofs.NthPlace.{nth_none}
use Rattle.lookup_nth.proofs.NthElement.{headers_shaped}
use Rattle.lookup_named.specs.HeadersNamed.{headers_named}
use Rattle.lookup_named.proofs.Grouping.{named_listed}
use Rattle.lookup_places.proofs.EntryPlaces.{listed_there, passed_as}
use Rattle.lookup_places.specs.NamedPlaces.{header_place, SpotIs}

module _ (m : CpimMessage) (head name : Bytes) (n : ℕ) where
  abbrev Says : Option ℕ → Option Message → Type 0
  Says r o = SpotIs head (header_place o name n) (nth_header o name n) r

  pub no_message : message_holds m head ≡ false → (o : Option Message) → Held (head_lent m head) o → Says none o
  unfolding nth_header
  no_message h = not_held m head (Says none) none h refl

  pub no_name : is_utf8 name ≡ false → (o : Option Message) → Says none o
  unfolding nth_header
  no_name u none = refl
  no_name u (some k) = rw u refl

  -- of a name that is UTF-8
  module _ (u : is_utf8 name ≡ true) (k : Message) where
    named_is : headers_named (some k) name ≡ only name_of name k.headers
    unfolding headers_named
    named_is = rw u refl

    nth_is : nth_header (some k) name n ≡ nth n (only name_of name k.headers)
    unfolding nth_header
    nth_is = rw u refl

  -- as `headers_of` finds them
  module _ (at size many : ℕ) (h : message_holds m head ≡ true) (u : is_utf8 name ≡ true)
      (found : (k : Message) → Holds (head_lent m head) k → Grouped name_of need_header name k.headers at size many) where
    listed : (o : Option Message) → Held (head_lent m head) o
        → Listed layout_header (headers_named o name) (take (256 + at + size - (256 + at)) (drop (256 + at) head)) many
    listed = named_listed m head name at size many h found u

    pub group_shaped : shaped_all many (take (256 + at + size - (256 + at)) (drop (256 + at) head)) ≡ true
    group_shaped =
        let held = held_total (head_lent m head) in
        headers_shaped (headers_named held.0 name) _ _ (listed held.0 held.1)

    pub too_few : many ≤ n → (o : Option Message) → Held (head_lent m head) o → Says none o
    too_few few o held =
        head_held m head (λ o. Listed layout_header (headers_named o name) (take (256 + at + size - (256 + at)) (drop (256 + at) head)) many → Says none o) h
        (λ k w l. rw (nth_is u k, nth_none n (only name_of name k.headers) (omega (arith, l.entries, ap length (named_is u k)))) refl) o held (listed o held)

    pub nth_found : n < many → (passed : ℕ) → passed ≡ total stored_size (entries_in n (drop 0 (take (256 + at + size - (256 + at)) (drop (256 + at) head))))
        → (o : Option Message) → Held (head_lent m head) o → Says (some (256 + at + passed)) o
    unfolding header_place
    nth_found more passed e o held =
        head_held m head (λ o. Listed layout_header (headers_named o name) (take (256 + at + size - (256 + at)) (drop (256 + at) head)) many → Says (some (256 + at + passed)) o) h
        (λ k w l. one k w l) o held (listed o held)
      where
        one : (k : Message) → Holds (head_lent m head) k
            → Listed layout_header (headers_named (some k) name) (take (256 + at + size - (256 + at)) (drop (256 + at) head)) many
            → Says (some (256 + at + passed)) (some k)
        one k w l =
            let hs = only name_of name k.headers in
            let part = take (256 + at + size - (256 + at)) (drop (256 + at) head) in
            let these : Listed layout_header hs part many = subst (λ (xs : List Header). Listed layout_header xs part many) (named_is u k) l in
            let p : passed ≡ total need_header (take n hs) = passed_as stored_header layout_header header_bytes need_header header_size_lem hs part many n passed these more e in
            let t = listed_there layout_header need_header layout_header_length hs head (256 + at) (256 + at + size) n these.bytes (omega (arith, these.entries)) in
            let place : header_place (some k) name n ≡ 256 + at + total need_header (take n hs) = ap (λ (j : ℕ). 256 + j + total need_header (take n hs)) (sym (found k w).place) in
            rw (nth_is u k, t.is) (
              λ i. some ((ap (λ (j : ℕ). 256 + at + j) p ∙ sym place) i),
              record { more = t.more; bytes = ap (λ (j : ℕ). drop j head) place ∙ t.bytes },
            )
