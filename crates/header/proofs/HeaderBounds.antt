-- What is known of the store's parts where a header is held alone. Assumes nothing.
use Prim.Native.Nat.{ℕ, ◌+◌, ◌≤◌}
use mathlib.Core.Path.{◌≡◌, ap, ◌∙◌}
use mathlib.Core.Bool.{true}
use native.Mathlib.Omega.{arith}
use lib.ListN.{length}
use Rattle.format.specs.Bytes.{Bytes, total, texts}
use Rattle.format.specs.Limits.{max_params}
use Rattle.format.specs.Message.{LoneHeader, entry_name, need_entry}
use Rattle.format.specs.Layout.{HoldsAlone, layout_entry}
use Rattle.format.specs.declared.CpimHeader.{CpimHeader}
use Rattle.format.proofs.Messages.Parts as valid
use Rattle.store_entries.specs.Stored.{stored_size, shaped_all, entries_in}
use Rattle.store_entries.specs.Passing.{under, of_name}
use Rattle.store_entries.specs.Groups.{Grouped}
use Rattle.store_entries.proofs.GroupPlaces.{grouped_entries}
use Rattle.store_check.specs.Holding.{header_holds, params_part}
use Rattle.store_check.specs.Decoding.{header_in}
use Rattle.store_check.proofs.HeldParts.{AloneParts, alone_parts}
use Rattle.store_check.proofs.HeaderHeld.{held_alone_holds}
use Rattle.message_edit.proofs.GroupParts.{many_within, bytes_within}

pub record Bounds (h : CpimHeader) (store : Bytes) : Type 0 where
  pub value : 16 + h.valuelen ≤ h.size
  pub used : h.size ≤ length store
  pub params : h.params ≤ max_params
  pub params_shaped : shaped_all h.params (params_part h store) ≡ true

pub bounds : (h : CpimHeader) (store : Bytes) → header_holds h store ≡ true → Bounds h store
bounds h store e =
    let k = header_in h store in
    let holds = held_alone_holds h store e in
    let parts = alone_parts h store k holds in
    record {
      value = omega (arith, parts.used);
      used = parts.room;
      params = omega (arith, parts.params, (valid.alone_parts k holds.within).params.few);
      params_shaped = parts.params_shaped;
    }

-- the same of its numbers, for the search
pub value_within : (h : CpimHeader) (store : Bytes) → header_holds h store ≡ true → 16 + h.valuelen ≤ h.size
value_within h store e = (bounds h store e).value

pub used_within : (h : CpimHeader) (store : Bytes) → header_holds h store ≡ true → h.size ≤ length store
used_within h store e = (bounds h store e).used

pub few_params : (h : CpimHeader) (store : Bytes) → header_holds h store ≡ true → h.params ≤ max_params
few_params h store e = (bounds h store e).params

pub ruleset held_bounds = (value_within, used_within, few_params)

-- the parameter of a name, of what is held
module _ (h : CpimHeader) (store name : Bytes) (at size many : ℕ) where
  module _ (k : LoneHeader) (held : HoldsAlone h store k) where
    parts : AloneParts h store k
    parts = alone_parts h store k held

    pub params-grouped :
        at ≡ total stored_size (under name (entries_in h.params (params_part h store)))
        → size ≡ total stored_size (of_name name (entries_in h.params (params_part h store)))
        → many ≡ length (of_name name (entries_in h.params (params_part h store)))
        → Grouped entry_name need_entry name k.params at size many
    params-grouped a b c =
        let e = ap (entries_in h.params) parts.params_part_lem ∙ ap (λ (n : ℕ). entries_in n (texts layout_entry k.params)) parts.params in
        grouped_entries name at size many k.params
        (a ∙ ap (λ es. total stored_size (under name es)) e) (b ∙ ap (λ es. total stored_size (of_name name es)) e) (c ∙ ap (λ es. length (of_name name es)) e)

  -- it is within the bytes and the number of the parameters
  pub params_fit_lem : header_holds h store ≡ true
      → ((k : LoneHeader) → HoldsAlone h store k → Grouped entry_name need_entry name k.params at size many)
      → (16 + h.valuelen + (at + size) ≤ h.size) × (many ≤ h.params)
  params_fit_lem e g =
      let k = header_in h store in
      let held = held_alone_holds h store e in
      let q = g k held in (
        omega (arith, bytes_within entry_name need_entry name k.params at size many q, (parts k held).used),
        omega (arith, many_within entry_name need_entry name k.params at size many q, (parts k held).params),
      )
