-- The headers of a name stand together in the head store, laid out one behind another: those that `only` takes of a message's headers.
-- Assumes nothing.
use Prim.Native.Nat.{ℕ, ◌+◌, ◌-◌, ◌≤◌}
use mathlib.Core.Path.{◌≡◌, refl, sym, ap, ◌∙◌}
use mathlib.Core.Bool.{true, false}
use mathlib.Core.List.{List, [], ◌++◌, append_assoc}
use mathlib.Core.Option.{Option, none, some}
use native.Mathlib.Omega.{arith}
use lib.ListN.{length, take, drop, replicate, take-append-drop}
use lib.Seq.{drop-drop}
use Rattle.format.specs.Bytes.{Bytes, total, texts}
use Rattle.format.specs.Characters.{is_utf8}
use Rattle.format.specs.Message.{Header, Message, name_of, need_header}
use Rattle.format.specs.Layout.{layout_header, Holds, Held}
use Rattle.format.specs.Lending.{head_lent}
use Rattle.format.specs.declared.CpimMessage.{CpimMessage}
use Rattle.format.proofs.Lists.{texts_append, total_append}
use Rattle.format.proofs.Messages.Layout.{headers_length}
use Rattle.format.proofs.Messages.Parts.{message_parts}
use Rattle.store_entries.specs.Groups.{low, own, high, Grouped}
use Rattle.store_entries.proofs.ByName.{parts, only_parts}
use Rattle.store_check.specs.Holding.{message_holds}
use Rattle.store_check.specs.Decoding.{message_in}
use Rattle.store_check.proofs.HeldParts.{HeldParts, held_parts, cut}
use Rattle.store_check.proofs.HeldCases.{in_head, not_held, head_held}
use Rattle.message_edit.proofs.MessageBounds.{part_is}
use Rattle.lookup_nth.specs.Listed.{Listed}
use Rattle.lookup_named.specs.HeadersNamed.{headers_named}

no_headers : Listed layout_header [] [] 0
unfolding texts
no_headers = record { bytes = refl; entries = refl }

-- there are none
pub none_unheld : (m : CpimMessage) (head name : Bytes) → message_holds m head ≡ false
    → (o : Option Message) → Held (head_lent m head) o → Listed layout_header (headers_named o name) [] 0
unfolding headers_named
none_unheld m head name h = not_held m head (λ o. Listed layout_header (headers_named o name) [] 0) none h no_headers

pub none_unnamed : (name : Bytes) → is_utf8 name ≡ false → (o : Option Message) → Listed layout_header (headers_named o name) [] 0
unfolding headers_named
none_unnamed name h none = no_headers
none_unnamed name h (some k) = rw h no_headers

-- Where they stand.
module _ (m : CpimMessage) (head name : Bytes) (k : Message) (held : Holds (head_lent m head) k) (at size many : ℕ)
    (g : Grouped name_of need_header name k.headers at size many) where
  abbrev before : List Header
  before = low name_of name k.headers

  abbrev these : List Header
  these = own name_of name k.headers

  abbrev behind : List Header
  behind = high name_of name k.headers

  all_parts : HeldParts (head_lent m head) k
  all_parts = held_parts (head_lent m head) k held

  grouped_within : 256 + (at + size) ≤ length head
  grouped_within =
      let whole = ap (total need_header) (parts name_of name k.headers) ∙ total_append need_header before (these ++ behind) in
      omega (arith, g.place, g.bytes, whole, total_append need_header these behind, all_parts.headerlen, all_parts.used, all_parts.room)

  -- the headers in three parts, and what stands behind them
  in_parts : drop 256 head ≡ texts layout_header before ++ (texts layout_header these ++ (texts layout_header behind ++ drop m.headerlen (drop 256 head)))
  in_parts =
      let rest = drop m.headerlen (drop 256 head) in
      sym (take-append-drop m.headerlen (drop 256 head))
      ∙ ap (λ (x : Bytes). x ++ rest)
      (all_parts.headers_part_lem
      ∙ ap (texts layout_header) (parts name_of name k.headers)
      ∙ texts_append layout_header before (these ++ behind)
      ∙ ap (λ (x : Bytes). texts layout_header before ++ x) (texts_append layout_header these behind))
      ∙ simp append_assoc

  grouped_bytes : take (256 + at + size - (256 + at)) (drop (256 + at) head) ≡ texts layout_header these
  grouped_bytes =
      part_is (256 + at) size head
      ∙ ap (take size) (sym (drop-drop at 256 head))
      ∙ (cut (texts layout_header before) (texts layout_header these) (texts layout_header behind) (drop m.headerlen (drop 256 head)) (drop 256 head)
      at size (length (texts layout_header behind)) in_parts
      (headers_length before ∙ sym g.place) (headers_length these ∙ sym g.bytes) refl).second

  grouped_listed : is_utf8 name ≡ true → Listed layout_header (headers_named (some k) name) (take (256 + at + size - (256 + at)) (drop (256 + at) head)) many
  unfolding headers_named
  grouped_listed u =
      let named = sym (only_parts name_of name k.headers (message_parts k held.within).headers.ordered) in
      rw u (record { bytes = grouped_bytes ∙ ap (texts layout_header) named; entries = g.entries ∙ ap length named })

-- as `headers_of` finds them
module _ (m : CpimMessage) (head name : Bytes) (at size many : ℕ) (h : message_holds m head ≡ true)
    (found : (k : Message) → Holds (head_lent m head) k → Grouped name_of need_header name k.headers at size many) where
  pub named_within : 256 + (at + size) ≤ length head
  named_within =
      let k = message_in m head (replicate m.bodylen 0) in
      grouped_within m head name k (in_head m head h) at size many (found k (in_head m head h))

  pub named_listed : is_utf8 name ≡ true → (o : Option Message) → Held (head_lent m head) o
      → Listed layout_header (headers_named o name) (take (256 + at + size - (256 + at)) (drop (256 + at) head)) many
  named_listed u =
      head_held m head (λ o. Listed layout_header (headers_named o name) (take (256 + at + size - (256 + at)) (drop (256 + at) head)) many) h
      (λ k held. grouped_listed m head name k held at size many (found k held) u)
