-- Going over entries one by one: what is left behind the place reached. Every loop over a store that measures or writes carries it.
-- Assumes nothing.
use Prim.Native.Nat.{ℕ, ◌+◌, ◌-◌, ◌≤◌, ◌<◌}
use mathlib.Core.Path.{◌≡◌, sym, ap, ◌∙◌}
use mathlib.Core.Bool.{true}
use mathlib.Core.List.{List, [], ◌∷◌}
use native.Mathlib.Omega.{arith}
use lib.ListN.{length, drop}
use lib.Seq.{drop-drop}
use Rattle.format.specs.Bytes.{Bytes}
use Rattle.store_entries.specs.Stored.{Stored, size_in, stored_in, shaped, shaped_all, entries_in}
use Rattle.store_entries.proofs.EntryShape.{within_size, within_numbers}
use Rattle.store_entries.proofs.Sequences.{next_shaped, next_entry}

-- the entries left, of count entries, i of which have been passed, up to the place at
abbrev pub left : Bytes → ℕ → ℕ → ℕ → List Stored
left s count at i = entries_in (count - i) (drop at s)

pub record Passing (s : Bytes) (count at i : ℕ) : Type 0 where
  pub within : i ≤ count
  pub shapes : shaped_all (count - i) (drop at s) ≡ true

module _ (s : Bytes) (count : ℕ) where
  pub left_start : entries_in count s ≡ left s count 0 0
  left_start =
      let e : count ≡ count - 0 = omega arith in
      ap (λ (n : ℕ). entries_in n s) e

  pub passing_start : shaped_all count s ≡ true → Passing s count 0 0
  passing_start h =
      let e : count - 0 ≡ count = omega arith in
      record { within = omega arith; shapes = ap (λ (n : ℕ). shaped_all n s) e ∙ h }

  module _ (at i : ℕ) where
    pub left_end : count ≤ i → left s count at i ≡ []
    unfolding entries_in
    left_end h =
        let e : count - i ≡ 0 = omega arith in
        ap (λ (n : ℕ). entries_in n (drop at s)) e

    pub left_next : i < count → left s count at i ≡ stored_in (drop at s) ∷ left s count (at + size_in (drop at s)) (i + 1)
    left_next more =
        let k : count - i - 1 ≡ count - (i + 1) = omega arith in
        let d : drop (size_in (drop at s)) (drop at s) ≡ drop (at + size_in (drop at s)) s = drop-drop (size_in (drop at s)) at s in
        next_entry (count - i) (drop at s) (omega arith) ∙ (λ j. stored_in (drop at s) ∷ entries_in (k j) (d j))

    module _ (w : Passing s count at i) (more : i < count) where
      pub passing_shaped : shaped (drop at s) ≡ true
      passing_shaped = (next_shaped (count - i) (drop at s) (omega arith) w.shapes).0

      pub passing_numbers : at + 16 ≤ length s
      passing_numbers = within_numbers s at passing_shaped

      pub passing_size : at + size_in (drop at s) ≤ length s
      passing_size = within_size s at passing_shaped

      pub passing_on : Passing s count (at + size_in (drop at s)) (i + 1)
      passing_on =
          let k : count - i - 1 ≡ count - (i + 1) = omega arith in
          let d : drop (size_in (drop at s)) (drop at s) ≡ drop (at + size_in (drop at s)) s = drop-drop (size_in (drop at s)) at s in
          record {
            within = omega arith;
            shapes = (λ j. shaped_all (sym k j) (sym d j)) ∙ (next_shaped (count - i) (drop at s) (omega arith) w.shapes).1;
          }
