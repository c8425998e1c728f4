-- The headers, their parameters and the content headers of a message in the store that holds it, counted. Assumes nothing.
use Prim.Native.Nat.{ℕ, ◌+◌, ◌-◌, ◌<◌}
use mathlib.Core.Path.{◌≡◌, refl, ap, ◌∙◌}
use mathlib.Core.Bool.{true, false}
use mathlib.Core.Option.{Option, none}
use native.Mathlib.Omega.{arith}
use lib.ListN.{take, drop}
use Rattle.format.specs.Bytes.{Bytes, total}
use Rattle.format.specs.Message.{Message}
use Rattle.format.specs.Layout.{Held}
use Rattle.format.specs.Lending.{head_lent}
use Rattle.format.specs.LookingUp.{count_headers, count_params, count_contents}
use Rattle.format.specs.declared.CpimMessage.{CpimMessage}
use Rattle.format.proofs.Messages.Parts.{message_parts}
use Rattle.store_entries.specs.Stored.{shaped_all, entries_in}
use Rattle.store_check.specs.Holding.{message_holds}
use Rattle.store_check.proofs.HeldParts.{part_of, held_parts}
use Rattle.store_check.proofs.HeldCases.{head_read, in_head, head_parts, not_held, head_held}
use Rattle.lookup_nth.proofs.NthElement.{headers_params}

-- Where nothing is held.
module _ (m : CpimMessage) (head : Bytes) (h : message_holds m head ≡ false) where
  pub none_headers : (o : Option Message) → Held (head_lent m head) o → 0 ≡ count_headers o
  unfolding count_headers
  none_headers = not_held m head (λ o. 0 ≡ count_headers o) none h refl

  pub none_params : (o : Option Message) → Held (head_lent m head) o → 0 ≡ count_params o
  unfolding count_params
  none_params = not_held m head (λ o. 0 ≡ count_params o) none h refl

  pub none_contents : (o : Option Message) → Held (head_lent m head) o → 0 ≡ count_contents o
  unfolding count_contents
  none_contents = not_held m head (λ o. 0 ≡ count_contents o) none h refl

-- Where a message is held.
module _ (m : CpimMessage) (head : Bytes) (h : message_holds m head ≡ true) where
  pub headers_few : m.headers < 65536
  headers_few = omega (arith, (head_parts m head h).headers, (message_parts (head_read m head) (in_head m head h).within).headers.few)

  pub headers_in_order : shaped_all m.headers (take (256 + m.headerlen - 256) (drop 256 head)) ≡ true
  headers_in_order = ap (shaped_all m.headers) (part_of 256 m.headerlen head) ∙ (head_parts m head h).headers_shaped

  pub headers_counted : (o : Option Message) → Held (head_lent m head) o → m.headers ≡ count_headers o
  unfolding count_headers
  headers_counted = head_held m head (λ o. m.headers ≡ count_headers o) h (λ k held. (held_parts (head_lent m head) k held).headers)

  pub contents_counted : (o : Option Message) → Held (head_lent m head) o → m.contents ≡ count_contents o
  unfolding count_contents
  contents_counted = head_held m head (λ o. m.contents ≡ count_contents o) h (λ k held. (held_parts (head_lent m head) k held).contents)

  pub params_counted : (n : ℕ) → n ≡ total (λ e. e.params) (entries_in m.headers (take (256 + m.headerlen - 256) (drop 256 head)))
      → (o : Option Message) → Held (head_lent m head) o → n ≡ count_params o
  unfolding count_params
  params_counted n e =
      head_held m head (λ o. n ≡ count_params o) h
      (λ k held.
      let p = held_parts (head_lent m head) k held in
      e ∙ headers_params k.headers _ _ (record { bytes = part_of 256 m.headerlen head ∙ p.headers_part_lem; entries = p.headers }))
