-- The parts of a header alone in the store that holds it. Assumes nothing.
use Prim.Native.Nat.{ℕ, ◌+◌, ◌-◌, ◌≤◌}
use mathlib.Core.Path.{◌≡◌, refl, ap, ◌∙◌}
use mathlib.Core.Bool.{true, false}
use mathlib.Core.List.{[]}
use mathlib.Core.Option.{Option, none, some}
use native.Mathlib.Omega.{arith}
use lib.ListN.{length, take, drop}
use Rattle.format.specs.Bytes.{Bytes, texts}
use Rattle.format.specs.Message.{LoneHeader}
use Rattle.format.specs.Layout.{layout_entry, HeldAlone}
use Rattle.format.specs.LookingUp.{nth, alone_value, alone_param}
use Rattle.format.specs.declared.CpimHeader.{CpimHeader}
use Rattle.store_check.specs.Holding.{header_holds}
use Rattle.store_check.specs.Decoding.{header_in}
use Rattle.store_check.proofs.HeldParts.{AloneParts, part_of, alone_parts}
use Rattle.store_check.proofs.HeaderHeld.{held_alone_holds}
use Rattle.store_check.proofs.HeldCases.{alone_held, alone_not_held}
use Rattle.lookup_nth.specs.Listed.{Listed}
use Rattle.lookup.specs.OfHeld.{params_held}

-- Where nothing is held.
module _ (r : CpimHeader) (store : Bytes) (h : header_holds r store ≡ false) where
  pub no_value : (o : Option LoneHeader) → HeldAlone r store o → none ≡ alone_value o
  unfolding alone_value
  no_value = alone_not_held (λ o. none ≡ alone_value o) r store h refl

  pub no_params : (o : Option LoneHeader) → HeldAlone r store o → Listed layout_entry (params_held o) [] 0
  unfolding texts
  no_params = alone_not_held (λ o. Listed layout_entry (params_held o) [] 0) r store h (record { bytes = refl; entries = refl })

-- Where a header is held.
module _ (r : CpimHeader) (store : Bytes) (h : header_holds r store ≡ true) where
  parts : AloneParts r store (header_in r store)
  parts = alone_parts r store (header_in r store) (held_alone_holds r store h)

  pub value_within : 16 + r.valuelen ≤ r.size
  value_within = omega (arith, parts.used)

  pub size_within : r.size ≤ length store
  size_within = parts.room

  pub value_is : (o : Option LoneHeader) → HeldAlone r store o → some (take (16 + r.valuelen - 16) (drop 16 store)) ≡ alone_value o
  unfolding alone_value
  value_is =
      alone_held (λ o. some (take (16 + r.valuelen - 16) (drop 16 store)) ≡ alone_value o) r store h
      (λ k w. ap (λ (b : Bytes). some b) (part_of 16 r.valuelen store ∙ (alone_parts r store k w).value_part_lem))

  pub params_listed : (o : Option LoneHeader) → HeldAlone r store o
      → Listed layout_entry (params_held o) (take (r.size - (16 + r.valuelen)) (drop (16 + r.valuelen) store)) r.params
  params_listed =
      alone_held (λ o. Listed layout_entry (params_held o) (take (r.size - (16 + r.valuelen)) (drop (16 + r.valuelen) store)) r.params) r store h
      (λ k w.
      let p = alone_parts r store k w in
      record { bytes = p.params_part_lem; entries = p.params })

-- the n-th parameter
pub nth_alone : (o : Option LoneHeader) (n : ℕ) → alone_param o n ≡ nth n (params_held o)
unfolding alone_param nth
nth_alone none n = refl
nth_alone (some h) n = refl
