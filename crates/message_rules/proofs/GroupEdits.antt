-- A header or content header put among those of a message: the message that the definition gives is the one with the list in parts.
-- Assumes nothing.
use Prim.Native.Nat.{ℕ, ◌+◌, ◌-◌, ◌≤◌}
use mathlib.Core.Path.{◌≡◌, refl, sym, ◌∙◌, subst}
use mathlib.Core.Bool.{true}
use mathlib.Core.List.{List, [], ◌∷◌, ◌++◌, append_assoc}
use native.Mathlib.Omega.{arith}
use lib.ListN.{length}
use Rattle.format.specs.Bytes.{Bytes}
use Rattle.format.specs.Message.{Entry, Header, Message, name_of, entry_name, entry, insert, without, put, ascending, need_header, need_entry}
use Rattle.format.specs.Calls.{if_room, with_headers, with_contents}
use Rattle.format.specs.Layout.{Holds}
use Rattle.format.specs.Lending.{head_lent}
use Rattle.format.specs.declared.Numbers.{Numbers}
use Rattle.format.specs.declared.CpimMessage.{CpimMessage}
use Rattle.format.proofs.Messages.Parts.{message_parts}
use Rattle.store_entries.specs.Groups.{low, own, high, Grouped}
use Rattle.store_entries.proofs.ByName.{insert_parts, put_parts}
use Rattle.store_splice.specs.Spliced.{Parted}
use Rattle.store_check.specs.Holding.{message_holds}
use Rattle.store_check.proofs.HeldParts.{HeldParts, held_parts}
use Rattle.message_edit.specs.Edits.{Does}
use Rattle.message_edit.proofs.MessageBounds.{held_in, holding}
use Rattle.message_edit.proofs.GroupParts.{increasing_ascending, in_place, behind, many_within, bytes_within, without_count}

-- how many headers stand beside those of a name
pub others_left : (m : CpimMessage) (head : Bytes) (k : Message) (held : Holds (head_lent m head) k) (name : Bytes) (at size many : ℕ)
    → Grouped name_of need_header name k.headers at size many → m.headers - many ≡ length (without name_of name k.headers)
others_left m head k held name at size many g =
    omega (
      arith,
      without_count name_of need_header name k.headers at size many g (message_parts k held.within).headers.ordered,
      (held_parts (head_lent m head) k held).headers,
    )

module _ (m r : CpimMessage) (head after : Bytes) (n : Numbers) (k : Message) (held : Holds (head_lent m head) k) (name : Bytes) (at size many : ℕ) where
  module _ (g : Grouped name_of need_header name k.headers at size many) (x : Header) (named : x.name ≡ name) where
    ordered : ascending name_of k.headers ≡ true
    ordered = (message_parts k held.within).headers.ordered

    pub appended : ((l p h : List Header) → Parted need_header k.headers l p h (at + size) 0 0
        → Does (head_lent m head) (head_lent r after) n (if_room (length head) (with_headers k (l ++ (x ∷ h)))))
        → Does (head_lent m head) (head_lent r after) n (if_room (length head) (with_headers k (insert name_of x k.headers)))
    appended does =
        let l = low name_of name k.headers in
        let o = own name_of name k.headers in
        let h = high name_of name k.headers in
        let e : (l ++ o) ++ (x ∷ h) ≡ insert name_of x k.headers =
        append_assoc l o (x ∷ h) ∙ sym (insert_parts name_of name k.headers ordered x named) in
        subst (λ (hs : List Header). Does (head_lent m head) (head_lent r after) n (if_room (length head) (with_headers k hs))) e
        (does (l ++ o) [] h (behind name_of need_header name k.headers at size many g))

    pub replaced : ((l p h : List Header) → Parted need_header k.headers l p h at size many
        → Does (head_lent m head) (head_lent r after) n (if_room (length head) (with_headers k (l ++ (x ∷ h)))))
        → Does (head_lent m head) (head_lent r after) n (if_room (length head) (with_headers k (insert name_of x (without name_of name k.headers))))
    replaced does =
        let hs = k.headers in
        subst (λ (hs : List Header). Does (head_lent m head) (head_lent r after) n (if_room (length head) (with_headers k hs)))
        (sym (put_parts name_of name hs ordered x named))
        (does (low name_of name hs) (own name_of name hs) (high name_of name hs) (in_place name_of need_header name hs at size many g))

  module _ (g : Grouped entry_name need_entry name k.contents at size many) (value : Bytes) where
    pub content_set : ((l p h : List Entry) → Parted need_entry k.contents l p h at size many
        → Does (head_lent m head) (head_lent r after) n (if_room (length head) (with_contents k (l ++ (entry name value ∷ h)))))
        → Does (head_lent m head) (head_lent r after) n (if_room (length head) (with_contents k (put (entry name value) k.contents)))
    unfolding put
    content_set does =
        let cs = k.contents in
        let ordered = increasing_ascending entry_name cs (message_parts k held.within).contents.ordered in
        subst (λ (es : List Entry). Does (head_lent m head) (head_lent r after) n (if_room (length head) (with_contents k es)))
        (sym (put_parts entry_name name cs ordered (entry name value) refl))
        (does (low entry_name name cs) (own entry_name name cs) (high entry_name name cs) (in_place entry_name need_entry name cs at size many g))

-- The group that was found is within the bytes and the number of the headers, and of the content headers.
module _ (m : CpimMessage) (head name : Bytes) (at size many : ℕ) (h : message_holds m head ≡ true) where
  holds : Holds (head_lent m head) (held_in m head)
  holds = holding m head h

  sizes : HeldParts (head_lent m head) (held_in m head)
  sizes = held_parts (head_lent m head) (held_in m head) holds

  pub headers_fit : ((k : Message) → Holds (head_lent m head) k → Grouped name_of need_header name k.headers at size many)
      → (at + size ≤ m.headerlen) × (many ≤ m.headers)
  headers_fit g =
      let q = g (held_in m head) holds in
      let hs = (held_in m head).headers in (
        omega (arith, bytes_within name_of need_header name hs at size many q, sizes.headerlen),
        omega (arith, many_within name_of need_header name hs at size many q, sizes.headers),
      )

  pub contents_fit : ((k : Message) → Holds (head_lent m head) k → Grouped entry_name need_entry name k.contents at size many)
      → (at + size ≤ m.contentlen) × (many ≤ m.contents)
  contents_fit g =
      let q = g (held_in m head) holds in
      let es = (held_in m head).contents in (
        omega (arith, bytes_within entry_name need_entry name es at size many q, sizes.contentlen),
        omega (arith, many_within entry_name need_entry name es at size many q, sizes.contents),
      )
