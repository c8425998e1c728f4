-- The check's way through entries: what is left to be judged behind the place reached. Assumes nothing.
use Prim.Native.Nat.{ℕ, zero, suc, ◌+◌, ◌-◌, ◌≤◌, ◌<◌}
use mathlib.Core.Path.{◌≡◌, refl, sym, ap, ◌∙◌}
use mathlib.Core.Bool.{Bool, true, false, ◌&&◌}
use mathlib.Core.List.{[], ◌∷◌}
use native.Mathlib.Omega.{arith}
use lib.Dec.{eqb}
use lib.ListN.{length, drop, length-drop}
use lib.Seq.{drop-drop}
use borrow.Author.Tests.{eq-eqb, ne_eqb}
use Rattle.format.specs.Bytes.{Bytes, is_empty, all}
use Rattle.format.proofs.Rulesets.{tests}
use Rattle.store_entries.specs.Stored.{size_in, name_in, stored_in, shaped, shaped_all, entries_in}
use Rattle.store_entries.proofs.EntryShape.{within_size, within_numbers}
use Rattle.store_entries.proofs.Sequences.{next_shaped, next_entry}
use Rattle.store_entry_check.specs.EntriesHold.{entry_holds, entries_hold, tail_holds}
use Rattle.store_entry_check.specs.declared.kinds.Kind.{Kind}

-- one entry, and those behind it
one_holds : (k : Kind) (n : ℕ) (last s : Bytes) → 0 < n
    → entries_hold k n last s ≡ (entry_holds k last s && entries_hold k (n - 1) (name_in s) (drop (size_in s) s))
unfolding entries_hold
one_holds k zero last s h = absurd (omega arith)
one_holds k (suc n) last s h =
    let e : n ≡ suc n - 1 = omega arith in
    ap (λ (i : ℕ). entry_holds k last s && entries_hold k i (name_in s) (drop (size_in s) s)) e

none_holds : (k : Kind) (n : ℕ) (last s : Bytes) → n ≡ 0 → entries_hold k n last s ≡ is_empty s
unfolding entries_hold
none_holds k zero last s h = refl
none_holds k (suc n) last s h = absurd (omega arith)

-- the bytes behind a place are none where that is the end
end_empty : (s : Bytes) (at : ℕ) → at ≤ length s → eqb at (length s) ≡ is_empty (drop at s)
unfolding is_empty
end_empty s at h = go (drop at s) (length-drop at s)
  where
    go : (t : Bytes) → length t ≡ length s - at → eqb at (length s) ≡ is_empty t
    go [] e = eq-eqb at (length s) (omega arith)
    go (b ∷ t) e = ne_eqb at (length s) (λ q. omega arith)

pub holds_shape : (k : Kind) (last s : Bytes) → entry_holds k last s ≡ true → shaped s ≡ true
unfolding entry_holds
holds_shape k last s h = (simp tests at h).0

-- i of count entries have been judged, up to the place at; the last has the name
pub record Judged (k : Kind) (s : Bytes) (count at : ℕ) (last : Bytes) (i : ℕ) : Type 0 where
  pub place : at ≤ length s
  pub same : entries_hold k count [] s ≡ entries_hold k (count - i) last (drop at s)

module _ (k : Kind) (s : Bytes) (count : ℕ) where
  pub judged_start : Judged k s count 0 [] 0
  judged_start =
      let e : count ≡ count - 0 = omega arith in
      record { place = omega arith; same = ap (λ (n : ℕ). entries_hold k n [] s) e }

  module _ (at : ℕ) (last : Bytes) (i : ℕ) (w : Judged k s count at last i) where
    -- none is left
    pub judged_end : count ≤ i → eqb at (length s) ≡ entries_hold k count [] s
    judged_end h =
        end_empty s at w.place ∙ sym (none_holds k (count - i) last (drop at s) (omega arith)) ∙ sym w.same

    module _ (more : i < count) where
      -- it does not hold
      pub judged_stop : entry_holds k last (drop at s) ≡ false → false ≡ entries_hold k count [] s
      judged_stop h =
          let t = drop at s in
          ap (λ (b : Bool). b && entries_hold k (count - i - 1) (name_in t) (drop (size_in t) t)) (sym h)
          ∙ sym (one_holds k (count - i) last t (omega arith))
          ∙ sym w.same

      -- it holds
      module _ (h : entry_holds k last (drop at s) ≡ true) where
        pub judged_shaped : shaped (drop at s) ≡ true
        judged_shaped = holds_shape k last (drop at s) h

        pub judged_numbers : at + 16 ≤ length s
        judged_numbers = within_numbers s at judged_shaped

        pub judged_size : at + size_in (drop at s) ≤ length s
        judged_size = within_size s at judged_shaped

        pub judged_on : Judged k s count (at + size_in (drop at s)) (name_in (drop at s)) (i + 1)
        judged_on =
            let t = drop at s in
            let d : drop (size_in t) t ≡ drop (at + size_in t) s = drop-drop (size_in t) at s in
            let left : count - i - 1 ≡ count - (i + 1) = omega arith in
            record {
              place = judged_size;
              same = w.same
                  ∙ one_holds k (count - i) last t (omega arith)
                  ∙ ap (λ (b : Bool). b && entries_hold k (count - i - 1) (name_in t) (drop (size_in t) t)) h
                  ∙ (λ j. entries_hold k (left j) (name_in t) (d j));
            }

-- the parameters of i of count headers have been judged, up to the place at
pub record Looked (s : Bytes) (count at i : ℕ) : Type 0 where
  pub left : shaped_all (count - i) (drop at s) ≡ true
  pub same : all tail_holds (entries_in count s) ≡ all tail_holds (entries_in (count - i) (drop at s))

module _ (s : Bytes) (count : ℕ) where
  pub looked_start : shaped_all count s ≡ true → Looked s count 0 0
  looked_start h =
      let e : count ≡ count - 0 = omega arith in
      record {
        left = ap (λ (n : ℕ). shaped_all n s) (sym e) ∙ h;
        same = ap (λ (n : ℕ). all tail_holds (entries_in n s)) e;
      }

  module _ (at i : ℕ) (w : Looked s count at i) where
    pub looked_end : count ≤ i → true ≡ all tail_holds (entries_in count s)
    unfolding entries_in all
    looked_end h =
        let e : count - i ≡ 0 = omega arith in
        ap (λ (n : ℕ). all tail_holds (entries_in n (drop at s))) (sym e) ∙ sym w.same

    module _ (more : i < count) where
      pub looked_shaped : shaped (drop at s) ≡ true
      looked_shaped = (next_shaped (count - i) (drop at s) (omega arith) w.left).0

      pub looked_numbers : at + 16 ≤ length s
      looked_numbers = within_numbers s at looked_shaped

      pub looked_size : at + size_in (drop at s) ≤ length s
      looked_size = within_size s at looked_shaped

      -- the tests of the one here, and of those behind it
      looked_next : all tail_holds (entries_in count s)
          ≡ (tail_holds (stored_in (drop at s)) && all tail_holds (entries_in (count - (i + 1)) (drop (at + size_in (drop at s)) s)))
      unfolding all
      looked_next =
          let t = drop at s in
          let left : count - i - 1 ≡ count - (i + 1) = omega arith in
          let d : drop (size_in t) t ≡ drop (at + size_in t) s = drop-drop (size_in t) at s in
          w.same
          ∙ ap (all tail_holds) (next_entry (count - i) t (omega arith))
          ∙ (λ j. tail_holds (stored_in t) && all tail_holds (entries_in (left j) (d j)))

      pub looked_stop : tail_holds (stored_in (drop at s)) ≡ false → false ≡ all tail_holds (entries_in count s)
      looked_stop h =
          ap (λ (b : Bool). b && all tail_holds (entries_in (count - (i + 1)) (drop (at + size_in (drop at s)) s))) (sym h) ∙ sym looked_next

      pub looked_on : tail_holds (stored_in (drop at s)) ≡ true → Looked s count (at + size_in (drop at s)) (i + 1)
      looked_on h =
          let t = drop at s in
          let left : count - i - 1 ≡ count - (i + 1) = omega arith in
          let d : drop (size_in t) t ≡ drop (at + size_in t) s = drop-drop (size_in t) at s in
          record {
            left = (λ j. shaped_all (sym left j) (sym d j)) ∙ (next_shaped (count - i) t (omega arith) w.left).1;
            same = looked_next ∙ ap (λ (b : Bool). b && all tail_holds (entries_in (count - (i + 1)) (drop (at + size_in t) s))) h;
          }

-- the two walks
pub ruleset judged = (judged_start, judged_end, judged_stop, judged_shaped, judged_numbers, judged_size, judged_on)

pub ruleset looked = (looked_start, looked_end, looked_shaped, looked_numbers, looked_size, looked_stop, looked_on)
