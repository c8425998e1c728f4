-- The parameters of entries, counted one entry after another. Assumes nothing.
use Prim.Native.Nat.{ℕ, ◌+◌, ◌-◌, ◌*◌, ◌≤◌, ◌<◌}
use mathlib.Core.Path.{◌≡◌, sym, ap, ◌∙◌}
use mathlib.Core.Bool.{true}
use mathlib.Core.List.{List, ◌∷◌}
use native.Mathlib.Omega.{arith}
use lib.ListN.{length, drop}
use lib.Seq.{drop-drop}
use Rattle.format.specs.Bytes.{Bytes, total}
use Rattle.store_entries.specs.Stored.{Stored, param_count, size_in, stored_in, shaped, shaped_all, entries_in}
use Rattle.store_entries.proofs.EntryShape.{within_size, within_numbers}
use Rattle.store_entries.proofs.Sequences.{next_shaped, next_entry}

abbrev all_params : List Stored → ℕ
all_params es = total (λ e. e.params) es

-- i of count entries have been counted, up to the place at; they have so many parameters
pub record Counted (s : Bytes) (count at i params : ℕ) : Type 0 where
  pub within : i ≤ count
  pub few : params ≤ 255 * i
  pub left : shaped_all (count - i) (drop at s) ≡ true
  pub same : all_params (entries_in count s) ≡ params + all_params (entries_in (count - i) (drop at s))

module _ (s : Bytes) (count : ℕ) where
  pub counted_start : shaped_all count s ≡ true → Counted s count 0 0 0
  counted_start h =
      let e : count - 0 ≡ count = omega arith in
      record { within = omega arith; few = omega arith; left = rw e h; same = rw e (omega arith) }

  module _ (at i params : ℕ) (w : Counted s count at i params) where
    pub counted_end : count ≤ i → params ≡ all_params (entries_in count s)
    unfolding entries_in total
    counted_end h =
        let e : count - i ≡ 0 = omega arith in
        omega (arith, w.same ∙ ap (λ (n : ℕ). params + all_params (entries_in n (drop at s))) e)

    module _ (more : i < count) where
      counted_shaped : shaped (drop at s) ≡ true
      counted_shaped = (next_shaped (count - i) (drop at s) (omega arith) w.left).0

      pub counted_numbers : at + 16 ≤ length s
      counted_numbers = within_numbers s at counted_shaped

      pub counted_size : at + size_in (drop at s) ≤ length s
      counted_size = within_size s at counted_shaped

      pub counted_on : (n : ℕ) → n ≡ param_count (drop at s) → n < 256 → Counted s count (at + size_in (drop at s)) (i + 1) (params + n)
      unfolding total stored_in
      counted_on n e small =
          let t = drop at s in
          let k : count - i - 1 ≡ count - (i + 1) = omega arith in
          let d : drop (size_in t) t ≡ drop (at + size_in t) s = drop-drop (size_in t) at s in
          let next : entries_in (count - i) t ≡ stored_in t ∷ entries_in (count - (i + 1)) (drop (at + size_in t) s) =
          next_entry (count - i) t (omega arith) ∙ (λ j. stored_in t ∷ entries_in (k j) (d j)) in
          record {
            within = omega arith;
            few = omega (arith, w.few);
            left = (λ j. shaped_all (sym k j) (sym d j)) ∙ (next_shaped (count - i) t (omega arith) w.left).1;
            same = omega (arith, w.same ∙ ap (λ (es : List Stored). params + all_params es) next, e);
          }
