-- What is known of the store's parts where a message is held. Assumes nothing.
use Prim.Native.Nat.{ℕ, ◌+◌, ◌-◌, ◌≤◌}
use mathlib.Core.Path.{◌≡◌, ap, ◌∙◌}
use mathlib.Core.Bool.{true}
use mathlib.Core.Option.{none}
use native.Mathlib.Omega.{arith}
use lib.ListN.{length, take, drop, replicate, length-replicate}
use Rattle.format.specs.Bytes.{Bytes, total, texts}
use Rattle.format.specs.Limits.{max_headers, max_contents}
use Rattle.format.specs.Message.{Message, name_of, entry_name, need_header, need_entry}
use Rattle.format.specs.Layout.{Holds, layout_header, layout_entry}
use Rattle.format.specs.Lending.{head_lent}
use Rattle.format.specs.declared.CpimMessage.{CpimMessage}
use Rattle.format.proofs.Messages.Parts.{message_parts}
use Rattle.store_entries.specs.Stored.{stored_size, shaped_all, entries_in}
use Rattle.store_entries.specs.Passing.{under, of_name}
use Rattle.store_entries.specs.Groups.{Grouped}
use Rattle.store_entries.proofs.GroupPlaces.{grouped_headers, grouped_entries}
use Rattle.store_check.specs.Holding.{message_holds, headers_part, contents_part}
use Rattle.store_check.specs.Decoding.{message_in}
use Rattle.store_check.proofs.HeldParts.{HeldParts, held_parts}
use Rattle.store_check.proofs.MessageHeld.{held_holds}

pub record Bounds (m : CpimMessage) (head : Bytes) : Type 0 where
  pub used : 256 + (m.headerlen + m.contentlen) ≤ length head
  pub headers : m.headers ≤ max_headers
  pub contents : m.contents ≤ max_contents
  pub headers_shaped : shaped_all m.headers (headers_part m head) ≡ true
  pub contents_shaped : shaped_all m.contents (contents_part m head) ≡ true

-- a message that is held, with zeros for the body, which is not lent
pub held_in : CpimMessage → Bytes → Message
held_in m head = message_in m head (replicate m.bodylen 0)

pub holding : (m : CpimMessage) (head : Bytes) → message_holds m head ≡ true → Holds (head_lent m head) (held_in m head)
unfolding held_in
holding m head h = held_holds m head (replicate m.bodylen 0) none h (length-replicate m.bodylen 0) tt

pub bounds : (m : CpimMessage) (head : Bytes) → message_holds m head ≡ true → Bounds m head
bounds m head h =
    let k = held_in m head in
    let holds = holding m head h in
    let parts = held_parts (head_lent m head) k holds in
    let limits = message_parts k holds.within in
    record {
      used = omega (arith, parts.used, parts.room);
      headers = omega (arith, parts.headers, limits.headers.few);
      contents = omega (arith, parts.contents, limits.contents.few);
      headers_shaped = parts.headers_shaped;
      contents_shaped = parts.contents_shaped;
    }

-- the same of its numbers, for the search
pub used_within : (m : CpimMessage) (head : Bytes) → message_holds m head ≡ true → 256 + (m.headerlen + m.contentlen) ≤ length head
used_within m head h = (bounds m head h).used

pub few_headers : (m : CpimMessage) (head : Bytes) → message_holds m head ≡ true → m.headers ≤ max_headers
few_headers m head h = (bounds m head h).headers

pub few_contents : (m : CpimMessage) (head : Bytes) → message_holds m head ≡ true → m.contents ≤ max_contents
few_contents m head h = (bounds m head h).contents

pub ruleset held_bounds = (used_within, few_headers, few_contents)

-- a part of a store as a slice takes it
pub part_is : (from n : ℕ) (s : Bytes) → take (from + n - from) (drop from s) ≡ take n (drop from s)
part_is from n s =
    let e : from + n - from ≡ n = omega arith in
    ap (λ (i : ℕ). take i (drop from s)) e

-- the entries of a name, of what is held
module _ (m : CpimMessage) (head name : Bytes) (k : Message) (held : Holds (head_lent m head) k) (at size many : ℕ) where
  parts : HeldParts (head_lent m head) k
  parts = held_parts (head_lent m head) k held

  pub headers-grouped :
      at ≡ total stored_size (under name (entries_in m.headers (headers_part m head)))
      → size ≡ total stored_size (of_name name (entries_in m.headers (headers_part m head)))
      → many ≡ length (of_name name (entries_in m.headers (headers_part m head)))
      → Grouped name_of need_header name k.headers at size many
  headers-grouped a b c =
      let e = ap (entries_in m.headers) parts.headers_part_lem ∙ ap (λ (n : ℕ). entries_in n (texts layout_header k.headers)) parts.headers in
      grouped_headers name at size many k.headers
      (a ∙ ap (λ es. total stored_size (under name es)) e) (b ∙ ap (λ es. total stored_size (of_name name es)) e) (c ∙ ap (λ es. length (of_name name es)) e)

  pub contents-grouped :
      at ≡ total stored_size (under name (entries_in m.contents (contents_part m head)))
      → size ≡ total stored_size (of_name name (entries_in m.contents (contents_part m head)))
      → many ≡ length (of_name name (entries_in m.contents (contents_part m head)))
      → Grouped entry_name need_entry name k.contents at size many
  contents-grouped a b c =
      let e = ap (entries_in m.contents) parts.contents_part_lem ∙ ap (λ (n : ℕ). entries_in n (texts layout_entry k.contents)) parts.contents in
      grouped_entries name at size many k.contents
      (a ∙ ap (λ es. total stored_size (under name es)) e) (b ∙ ap (λ es. total stored_size (of_name name es)) e) (c ∙ ap (λ es. length (of_name name es)) e)
