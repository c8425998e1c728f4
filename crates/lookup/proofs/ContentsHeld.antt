-- The content headers of a message in the store that holds it, as a list laid out in bytes. Assumes nothing.
use Prim.Native.Nat.{ℕ, ◌+◌, ◌-◌}
use mathlib.Core.Path.{◌≡◌, refl, ◌∙◌}
use mathlib.Core.Bool.{true, false}
use mathlib.Core.List.{[]}
use mathlib.Core.Option.{Option, none, some}
use lib.ListN.{take, drop}
use Rattle.format.specs.Bytes.{Bytes, texts}
use Rattle.format.specs.Message.{Message}
use Rattle.format.specs.Layout.{layout_entry, Held}
use Rattle.format.specs.Lending.{head_lent}
use Rattle.format.specs.LookingUp.{nth, get_content}
use Rattle.format.specs.declared.CpimMessage.{CpimMessage}
use Rattle.store_check.specs.Holding.{message_holds}
use Rattle.store_check.proofs.HeldParts.{part_of, held_parts}
use Rattle.store_check.proofs.HeldCases.{not_held, head_held}
use Rattle.lookup_nth.specs.Listed.{Listed}
use Rattle.lookup.specs.OfHeld.{contents_held}

module _ (m : CpimMessage) (head : Bytes) where
  pub no_contents : message_holds m head ≡ false → (o : Option Message) → Held (head_lent m head) o → Listed layout_entry (contents_held o) [] 0
  unfolding texts
  no_contents h = not_held m head (λ o. Listed layout_entry (contents_held o) [] 0) none h (record { bytes = refl; entries = refl })

  pub contents_listed : message_holds m head ≡ true → (o : Option Message) → Held (head_lent m head) o
      → Listed layout_entry (contents_held o) (take (256 + m.headerlen + m.contentlen - (256 + m.headerlen)) (drop (256 + m.headerlen) head)) m.contents
  contents_listed h =
      head_held m head (λ o. Listed layout_entry (contents_held o) (take (256 + m.headerlen + m.contentlen - (256 + m.headerlen)) (drop (256 + m.headerlen) head)) m.contents) h
      (λ k held.
      let p = held_parts (head_lent m head) k held in
      record { bytes = part_of (256 + m.headerlen) m.contentlen head ∙ p.contents_part_lem; entries = p.contents })

-- the n-th content header
pub nth_content : (o : Option Message) (n : ℕ) → get_content o n ≡ nth n (contents_held o)
unfolding get_content nth
nth_content none n = refl
nth_content (some k) n = refl
