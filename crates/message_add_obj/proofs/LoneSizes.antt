-- How long the parts of a header that is held alone can be, and how they spell a message's header. Assumes nothing.
use Prim.Native.Nat.{◌+◌, ◌-◌, ◌≤◌}
use mathlib.Core.Path.{◌≡◌, refl, sym, ◌∙◌}
use mathlib.Core.Bool.{true}
use native.Mathlib.Omega.{arith}
use lib.ListN.{take, drop}
use Rattle.format.specs.Bytes.{Bytes}
use Rattle.format.specs.Limits.{max_value, max_params}
use Rattle.format.specs.Message.{LoneHeader, named}
use Rattle.format.specs.Layout.{HoldsAlone}
use Rattle.format.specs.declared.CpimHeader.{CpimHeader}
use Rattle.format.proofs.Messages.Parts as valid
use Rattle.store_check.specs.Holding.{header_holds}
use Rattle.store_check.specs.Decoding.{header_in}
use Rattle.store_check.proofs.HeldParts.{alone_parts}
use Rattle.store_check.proofs.HeaderHeld.{held_alone_holds}
use Rattle.message_edit.specs.Edits.{Spelt}
use Rattle.message_edit.proofs.MessageBounds.{part_is}
use Rattle.header.proofs.ParamSizes.{entries_bytes}
use Rattle.header.proofs.HeaderExits as ways

pub record Short (h : CpimHeader) : Type 0 where
  pub value : h.valuelen ≤ max_value
  pub params : h.params ≤ max_params
  pub tail : h.size ≤ 16 + h.valuelen + 3360

pub short : (h : CpimHeader) (store : Bytes) → header_holds h store ≡ true → Short h
short h store e =
    let k = header_in h store in
    let holds = held_alone_holds h store e in
    let parts = alone_parts h store k holds in
    let limits = valid.alone_parts k holds.within in
    record {
      value = omega (arith, parts.valuelen, ways.value_short k.value limits.valued);
      params = omega (arith, parts.params, limits.params.few);
      tail = omega (arith, parts.used, parts.params, entries_bytes k.params limits.params.each, limits.params.few);
    }

-- the parts of the store as slices take them
pub spelt : (name : Bytes) (h : CpimHeader) (store : Bytes) (x : LoneHeader) → HoldsAlone h store x
    → Spelt (named name x) name (take (16 + h.valuelen - 16) (drop 16 store)) h.params (take (h.size - (16 + h.valuelen)) (drop (16 + h.valuelen) store))
spelt name h store x held =
    let parts = alone_parts h store x held in
    record {
      name_is = refl;
      value_is = sym (part_is 16 h.valuelen store ∙ parts.value_part_lem);
      params_are = sym parts.params;
      tail_is = sym parts.params_part_lem;
    }
