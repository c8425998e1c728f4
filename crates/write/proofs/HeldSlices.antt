-- The parts of a message that is held, as slices of its head store. Assumes nothing.
use Prim.Native.Nat.{◌≤◌}
use mathlib.Core.Path.{◌≡◌, sym}
use mathlib.Core.Bool.{true}
use mathlib.Core.List.{[]}
use native.Mathlib.Omega.{arith}
use lib.ListN.{length, take}
use lib.Seq.{take-take}
use Rattle.format.specs.Bytes.{Bytes}
use Rattle.format.specs.declared.CpimMessage.{CpimMessage}
use Rattle.store_entries.specs.Stored.{shaped_all}
use Rattle.store_check.specs.Holding.{message_holds}
use Rattle.store_entry_check.specs.FromBytes.{entries_from, headers_from}
use Rattle.store_check.specs.Decoding.{message_in}
use Rattle.store_entry_check.specs.declared.kinds.Kind.TheVariants.{Content}
use Rattle.store_entry_check.proofs.EntriesListed.{holds_shaped}
use Rattle.write_parts.proofs.HeldText.{headers_at, contents_at, headers_are, contents_are, numbered, contents_hold}
use Rattle.write_cursor.specs.StoredMessage.{message_of}

module _ (m : CpimMessage) (head : Bytes) (h : message_holds m head ≡ true) where
  pub contents_shaped : shaped_all m.contents (contents_at m head) ≡ true
  contents_shaped = holds_shaped Content m.contents [] (contents_at m head) (contents_hold m head h)

  pub type_within : m.typelen ≤ length head
  type_within = omega (arith, (numbered m head h).start, (numbered m head h).type_short)

  pub slices_are : (body : Bytes)
      → message_of m.headers (headers_at m head) (take m.typelen head) m.contents (contents_at m head) body ≡ message_in m head body
  unfolding message_in
  slices_are body =
      let t = take-take m.typelen 256 head (numbered m head h).type_short in
      λ i. record {
        headers = headers_from m.headers (headers_are m head i);
        type = sym t i;
        contents = entries_from m.contents (contents_are m head i);
        body = body;
      }
