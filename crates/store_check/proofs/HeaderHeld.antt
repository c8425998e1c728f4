-- Record and header store pass `header_holds` exactly where they hold a header alone: what they hold passes, and what passes holds the
-- header read from it. Assumes nothing.
use Prim.Native.Nat.{ℕ, ◌+◌, ◌-◌, ◌≤◌}
use mathlib.Core.Path.{◌≡◌, sym, ap, ◌∙◌}
use mathlib.Core.Bool.{true}
use mathlib.Core.List.{[], ◌++◌}
use native.Mathlib.Omega.{arith}
use lib.Dec.{eqb}
use lib.ListN.{length, take, drop, replicate, length-drop}
use lib.Seq.{take-add, drop-drop, length-take-le}
use Rattle.format.specs.Bytes.{Bytes, all, total, texts}
use Rattle.format.specs.Characters.{is_utf8}
use Rattle.format.specs.Limits.{max_params}
use Rattle.format.specs.Refusals.{passes}
use Rattle.format.specs.Validators.{header_value}
use Rattle.format.specs.Message.{LoneHeader, need_entry, need_alone, valid_alone}
use Rattle.format.specs.Layout.{layout_entry, layout_alone, header_of, HoldsAlone}
use Rattle.format.specs.declared.CpimHeader.{CpimHeader}
use Rattle.format.proofs.Rulesets.{tests}
use Rattle.format.proofs.Messages.Layout.{entries_length}
use Rattle.format.proofs.Messages.Parts as valid
use Rattle.store_entries.proofs.Zeros.{all_zero, zero_all}
use Rattle.store_entry_check.specs.EntriesHold.{entries_hold}
use Rattle.store_check.specs.Holding.{sizes_hold, value_part, params_part, header_holds}
use Rattle.store_entry_check.specs.FromBytes.{entries_from}
use Rattle.store_check.specs.Decoding.{header_in}
use Rattle.store_entry_check.specs.declared.kinds.Kind.TheVariants.{Param}
use Rattle.store_entry_check.proofs.EntriesListed.{params_listed, params_hold}
use Rattle.store_check.proofs.HeldParts.{alone_parts}

-- What the sizes say.
pub record Sized (r : CpimHeader) (store : ℕ) : Type 0 where
  pub whole : r.size ≤ store
  pub used : 16 + r.valuelen ≤ r.size
  pub few : r.params ≤ max_params

pub sizes_parts : (r : CpimHeader) (store : ℕ) → sizes_hold r store ≡ true → Sized r store
unfolding sizes_hold
sizes_parts r store h = omega (arith, simp tests at h)

-- the same for the search
pub sizes_whole : (r : CpimHeader) (store : ℕ) → sizes_hold r store ≡ true → r.size ≤ store
sizes_whole r store h = (sizes_parts r store h).whole

pub sizes_used : (r : CpimHeader) (store : ℕ) → sizes_hold r store ≡ true → 16 + r.valuelen ≤ r.size
sizes_used r store h = (sizes_parts r store h).used

pub ruleset sized = (sizes_whole, sizes_used)

pub parts_sizes : (r : CpimHeader) (store : ℕ) → Sized r store → sizes_hold r store ≡ true
unfolding sizes_hold
parts_sizes r store s = simp tests (omega arith)

-- What is held passes.
pub holds_alone_held : (r : CpimHeader) (store : Bytes) (h : LoneHeader) → HoldsAlone r store h → header_holds r store ≡ true
unfolding header_holds
holds_alone_held r store h w =
    let p = alone_parts r store h w in
    let v = valid.alone_parts h w.within in
    let sizes : sizes_hold r (length store) ≡ true =
    parts_sizes r (length store) (record { whole = p.room; used = omega (arith, p.used); few = omega (arith, p.params, v.params.few) }) in
    let params : entries_hold Param r.params [] (params_part r store) ≡ true =
    ap (entries_hold Param r.params []) p.params_part_lem
    ∙ ap (λ (n : ℕ). entries_hold Param n [] (texts layout_entry h.params)) p.params
    ∙ params_hold h.params v.params.each v.params.ordered in
    let zeros : all (eqb 0) (take 16 store) ≡ true = ap (all (eqb 0)) p.zeros ∙ zero_all 16 in
    simp tests (sizes, (zeros, (rw p.value_part_lem v.valued, (rw p.value_part_lem v.value_utf8, params))))

-- What passes, part by part.
record Passed (r : CpimHeader) (store : Bytes) : Type 0 where
  sizes : Sized r (length store)
  zeros : all (eqb 0) (take 16 store) ≡ true
  valued : passes (header_value (value_part r store)) ≡ true
  value_utf8 : is_utf8 (value_part r store) ≡ true
  params : entries_hold Param r.params [] (params_part r store) ≡ true

passed : (r : CpimHeader) (store : Bytes) → header_holds r store ≡ true → Passed r store
unfolding header_holds
passed r store h = search (sizes_parts, simp tests at h)

-- the parts of the header store, one behind another
store_parts : (v p : ℕ) (store : Bytes) → take (16 + (v + p)) store ≡ take 16 store ++ (take v (drop 16 store) ++ take p (drop (16 + v) store))
store_parts v p store =
    take-add 16 (v + p) store
    ∙ ap (λ (x : Bytes). take 16 store ++ x)
    (take-add v p (drop 16 store) ∙ ap (λ (x : Bytes). take v (drop 16 store) ++ take p x) (drop-drop v 16 store))

module _ (r : CpimHeader) (store : Bytes) (p : Passed r store) where
  value_length_lem : length (value_part r store) ≡ r.valuelen
  value_length_lem = length-take-le r.valuelen (drop 16 store) (simp length-drop (omega (arith, p.sizes.whole, p.sizes.used)))

  params_used : total need_entry (entries_from r.params (params_part r store)) ≡ r.size - (16 + r.valuelen)
  params_used =
      sym (entries_length (entries_from r.params (params_part r store)))
      ∙ ap length (sym (params_listed r.params (params_part r store) p.params).bytes)
      ∙ length-take-le (r.size - (16 + r.valuelen)) (drop (16 + r.valuelen) store) (simp length-drop (omega (arith, p.sizes.whole)))

  all_used : need_alone (header_in r store) ≡ r.size
  unfolding need_alone header_in
  all_used = omega (arith, value_length_lem, params_used, p.sizes.used)

  read_valid : valid_alone (header_in r store) ≡ true
  unfolding header_in
  read_valid =
      let ps = params_listed r.params (params_part r store) p.params in
      valid.alone_whole _
      (record {
        valued = p.valued;
        value_utf8 = p.value_utf8;
        params = record { each = ps.each; ordered = ps.names; few = rw ps.count p.sizes.few };
      })

  read_record : r ≡ header_of (header_in r store)
  unfolding header_of header_in
  read_record =
      let ps = params_listed r.params (params_part r store) p.params in
      λ i. record { valuelen = sym value_length_lem i; params = sym ps.count i; size = sym all_used i }

  read_laid : take (need_alone (header_in r store)) store ≡ layout_alone (header_in r store)
  unfolding need_alone layout_alone header_in
  read_laid =
      let zeros : take 16 store ≡ replicate 16 0 =
      all_zero (take 16 store) p.zeros ∙ ap (λ (n : ℕ). replicate n 0) (length-take-le 16 store (omega (arith, p.sizes.whole, p.sizes.used))) in
      let ps = params_listed r.params (params_part r store) p.params in
      rw (value_length_lem, params_used)
      (store_parts r.valuelen (r.size - (16 + r.valuelen)) store ∙ (λ i. zeros i ++ (value_part r store ++ ps.bytes i)))

pub held_alone_holds : (r : CpimHeader) (store : Bytes) → header_holds r store ≡ true → HoldsAlone r store (header_in r store)
held_alone_holds r store h =
    let p = passed r store h in
    record { within = read_valid r store p; recorded = read_record r store p; laid = read_laid r store p }
