-- A walk over entries up to the first that fails a test. Assumes nothing.
use Prim.Native.Nat.{ℕ, ◌+◌, ◌-◌, ◌≤◌, ◌<◌}
use mathlib.Core.Path.{◌≡◌, sym, ap, ◌∙◌}
use mathlib.Core.Bool.{Bool, true, false}
use mathlib.Core.List.{List, ◌∷◌}
use native.Mathlib.Omega.{arith}
use lib.ListN.{length, drop}
use lib.Seq.{drop-drop}
use Rattle.format.specs.Bytes.{Bytes, all}
use Rattle.format.proofs.Lists.{all_head, all_tail}
use Rattle.store_entries.specs.Stored.{Stored, size_in, stored_in, shaped, shaped_all, entries_in}
use Rattle.store_entries.proofs.EntryShape.{within_size, within_numbers}
use Rattle.store_entries.proofs.Sequences.{entries_length, next_shaped, next_entry, no_entry}
use Rattle.std.specs.Prelude.{Some}
use Rattle.roundtrip.specs.Clauses.{Among, FirstFails, passing}
use Rattle.roundtrip.proofs.CountPassing.{passing_nil, passing_on, passing_stops, passing_all, passing_some}

-- i of count entries have passed each test that P is said of, up to the place at
pub record Walked (P : (Stored → Bool) → Type 0) (s : Bytes) (count at i : ℕ) : Type 0 where
  pub within : i ≤ count
  pub left : shaped_all (count - i) (drop at s) ≡ true
  pub known : (k : Stored → Bool) → all k (entries_in count s) ≡ true → all k (entries_in (count - i) (drop at s)) ≡ true
  pub same : (p : Stored → Bool) → P p → passing p (entries_in count s) ≡ i + passing p (entries_in (count - i) (drop at s))

module _ (P : (Stored → Bool) → Type 0) (s : Bytes) (count : ℕ) where
  pub walked_start : shaped_all count s ≡ true → Walked P s count 0 0
  walked_start h =
      let e : count - 0 ≡ count = omega arith in
      record { within = omega arith; left = rw e h; known = λ k a. rw e a; same = λ p a. rw e (omega arith) }

  module _ (at i : ℕ) (w : Walked P s count at i) where
    pub walked_end : count ≤ i → (p : Stored → Bool) → P p → all p (entries_in count s) ≡ true
    walked_end h p a =
        passing_all p (entries_in count s)
        (omega (arith, entries_length count s, w.same p a, ap (λ (es : List Stored). i + passing p es) (no_entry (count - i) (drop at s) (omega arith)), passing_nil p))

    module _ (more : i < count) where
      pub walked_shaped : shaped (drop at s) ≡ true
      walked_shaped = (next_shaped (count - i) (drop at s) (omega arith) w.left).0

      pub walked_numbers : at + 16 ≤ length s
      walked_numbers = within_numbers s at walked_shaped

      pub walked_size : at + size_in (drop at s) ≤ length s
      walked_size = within_size s at walked_shaped

      next_is : entries_in (count - i) (drop at s) ≡ stored_in (drop at s) ∷ entries_in (count - (i + 1)) (drop (at + size_in (drop at s)) s)
      next_is =
          let t = drop at s in
          let k : count - i - 1 ≡ count - (i + 1) = omega arith in
          let d : drop (size_in t) t ≡ drop (at + size_in t) s = drop-drop (size_in t) at s in
          next_entry (count - i) t (omega arith) ∙ (λ j. stored_in t ∷ entries_in (k j) (d j))

      each_known : (k : Stored → Bool) → all k (entries_in count s) ≡ true
          → all k (stored_in (drop at s) ∷ entries_in (count - (i + 1)) (drop (at + size_in (drop at s)) s)) ≡ true
      each_known k a = ap (all k) (sym next_is) ∙ w.known k a

      -- what all entries are, this one is
      pub walked_among : Among (entries_in count s) (stored_in (drop at s))
      walked_among = record { like = λ k a. all_head k (stored_in (drop at s)) (entries_in (count - (i + 1)) (drop (at + size_in (drop at s)) s)) (each_known k a) }

      pub walked_stop : (p : Stored → Bool) → P p → p (stored_in (drop at s)) ≡ false → FirstFails p (entries_in count s) (Some i)
      walked_stop p a h =
          let e : i ≡ passing p (entries_in count s) =
          omega (arith, w.same p a ∙ ap (λ (es : List Stored). i + passing p es) next_is, passing_stops p (stored_in (drop at s)) (entries_in (count - (i + 1)) (drop (at + size_in (drop at s)) s)) h) in
          (passing_some p (entries_in count s) (omega (arith, entries_length count s)), e)

      pub walked_on : ((p : Stored → Bool) → P p → p (stored_in (drop at s)) ≡ true) → Walked P s count (at + size_in (drop at s)) (i + 1)
      walked_on h =
          let t = drop at s in
          let k : count - i - 1 ≡ count - (i + 1) = omega arith in
          let d : drop (size_in t) t ≡ drop (at + size_in t) s = drop-drop (size_in t) at s in
          record {
            within = omega arith;
            left = (λ j. shaped_all (sym k j) (sym d j)) ∙ (next_shaped (count - i) t (omega arith) w.left).1;
            known = λ q a. all_tail q (stored_in t) (entries_in (count - (i + 1)) (drop (at + size_in t) s)) (each_known q a);
            same = λ p a.
                omega (arith, w.same p a ∙ ap (λ (es : List Stored). i + passing p es) next_is, passing_on p (stored_in t) (entries_in (count - (i + 1)) (drop (at + size_in t) s)) (h p a));
          }
