-- Passing over entries one by one: what stands before the place reached, and what is left behind it. Assumes nothing.
use Rattle.std.specs.Prelude.{if◌then◌else◌}
use Prim.Native.Nat.{ℕ, zero, suc, ◌+◌, ◌-◌, ◌≤◌, ◌<◌}
use mathlib.Core.Path.{◌≡◌, refl, sym, ap, ◌∙◌}
use mathlib.Core.Bool.{Bool, true, false}
use mathlib.Core.List.{List, [], ◌∷◌}
use native.Mathlib.Nat.{add_assoc}
use native.Mathlib.Omega.{arith}
use lib.ListN.{length, drop, length-drop}
use lib.Seq.{drop-drop}
use Rattle.format.specs.Bytes.{Bytes, total}
use Rattle.store_entries.specs.Stored.{Stored, stored_size, size_in, stored_in, shaped, shaped_all, entries_in}
use Rattle.store_entries.proofs.EntryShape.{Shape, shape}
use Rattle.store_entries.proofs.EntryRead.{stored_size_lem}
use Rattle.store_entries.proofs.Sequences.{entries_length, suc_less, next_shaped, next_entry, no_entry}
use Rattle.store_entries.specs.Passing.{whilst, after}

pub whilst_on : {A : Type 0} (p : A → Bool) (x : A) (xs : List A) → p x ≡ true → whilst p (x ∷ xs) ≡ x ∷ whilst p xs
unfolding whilst
whilst_on p x xs h = rw h refl

pub whilst_stop : {A : Type 0} (p : A → Bool) (x : A) (xs : List A) → p x ≡ false → whilst p (x ∷ xs) ≡ []
unfolding whilst
whilst_stop p x xs h = rw h refl

-- size bytes, many entries, have been passed over, of count entries from a place on; all passed the test
pub record Walk (p : Stored → Bool) (s : Bytes) (from count size many : ℕ) : Type 0 where
  pub within : many ≤ count
  pub left : shaped_all (count - many) (drop (from + size) s) ≡ true
  pub bytes : total stored_size (whilst p (entries_in count (drop from s)))
      ≡ size + total stored_size (whilst p (entries_in (count - many) (drop (from + size) s)))
  pub entries : length (whilst p (entries_in count (drop from s)))
      ≡ many + length (whilst p (entries_in (count - many) (drop (from + size) s)))

module _ (p : Stored → Bool) (s : Bytes) (from count : ℕ) where
  pub walk_start : shaped_all count (drop from s) ≡ true → Walk p s from count 0 0
  walk_start h =
      let z : from + 0 ≡ from = omega arith in
      let n : count - 0 ≡ count = omega arith in
      record {
        within = omega arith;
        left = rw (z, n) h;
        bytes = rw (z, n) (omega arith);
        entries = rw (z, n) (omega arith);
      }

  module _ (size many : ℕ) (w : Walk p s from count size many) where
    -- none is left
    pub walk_end : count ≤ many
        → (total stored_size (whilst p (entries_in count (drop from s))) ≡ size) × (length (whilst p (entries_in count (drop from s))) ≡ many)
    unfolding whilst total
    walk_end h =
        let e = ap (whilst p) (no_entry (count - many) (drop (from + size) s) (omega arith)) in
        (omega (arith, w.bytes ∙ ap (λ (xs : List Stored). size + total stored_size xs) e), omega (arith, w.entries ∙ ap (λ (xs : List Stored). many + length xs) e))

    module _ (more : many < count) where
      pub walk_shaped : shaped (drop (from + size) s) ≡ true
      walk_shaped = (next_shaped (count - many) (drop (from + size) s) (omega arith) w.left).0

      pub walk_shape : Shape (drop (from + size) s)
      walk_shape = shape (drop (from + size) s) walk_shaped

      -- it stops the walk
      pub walk_stop : p (stored_in (drop (from + size) s)) ≡ false
          → (total stored_size (whilst p (entries_in count (drop from s))) ≡ size) × (length (whilst p (entries_in count (drop from s))) ≡ many)
      unfolding total
      walk_stop h =
          let t = drop (from + size) s in
          let e = ap (whilst p) (next_entry (count - many) t (omega arith)) ∙ whilst_stop p (stored_in t) (entries_in (count - many - 1) (drop (size_in t) t)) h in
          (omega (arith, w.bytes ∙ ap (λ (xs : List Stored). size + total stored_size xs) e), omega (arith, w.entries ∙ ap (λ (xs : List Stored). many + length xs) e))

      -- it is passed over
      pub walk_on : p (stored_in (drop (from + size) s)) ≡ true → Walk p s from count (size + size_in (drop (from + size) s)) (many + 1)
      unfolding total
      walk_on h =
          let t = drop (from + size) s in
          let n = size_in t in
          let k : count - many - 1 ≡ count - (many + 1) = omega arith in
          let d : drop n t ≡ drop (from + (size + n)) s = drop-drop n (from + size) s ∙ ap (λ (i : ℕ). drop i s) (add_assoc from size n) in
          let rest = whilst p (entries_in (count - (many + 1)) (drop (from + (size + n)) s)) in
          let e : whilst p (entries_in (count - many) t) ≡ stored_in t ∷ rest =
          ap (whilst p) (next_entry (count - many) t (omega arith))
          ∙ whilst_on p (stored_in t) (entries_in (count - many - 1) (drop n t)) h
          ∙ ap (λ (j : ℕ). stored_in t ∷ whilst p (entries_in j (drop n t))) k
          ∙ ap (λ (x : Bytes). stored_in t ∷ whilst p (entries_in (count - (many + 1)) x)) d in
          record {
            within = omega arith;
            left =
                ap (λ (x : Bytes). shaped_all (count - (many + 1)) x) (sym d)
                ∙ ap (λ (j : ℕ). shaped_all j (drop n t)) (sym k)
                ∙ (next_shaped (count - many) t (omega arith) w.left).1;
            bytes = omega (arith, w.bytes ∙ ap (λ (xs : List Stored). size + total stored_size xs) e, stored_size_lem t walk_shape);
            entries = omega (arith, w.entries ∙ ap (λ (xs : List Stored). many + length xs) e);
          }

-- many of n entries have been passed over, of count entries from a place on
pub record First (s : Bytes) (from count n size many : ℕ) : Type 0 where
  pub within : many ≤ n
  pub left : shaped_all (count - many) (drop (from + size) s) ≡ true
  pub bytes : total stored_size (entries_in n (drop from s)) ≡ size + total stored_size (entries_in (n - many) (drop (from + size) s))

module _ (s : Bytes) (from count n : ℕ) (all : n ≤ count) where
  pub first_start : shaped_all count (drop from s) ≡ true → First s from count n 0 0
  first_start h =
      let z : from + 0 ≡ from = omega arith in
      let k : count - 0 ≡ count = omega arith in
      let j : n - 0 ≡ n = omega arith in
      record {
        within = omega arith;
        left = rw (z, k) h;
        bytes = rw (z, j) (omega arith);
      }

  module _ (size many : ℕ) (w : First s from count n size many) where
    pub first_end : n ≤ many → total stored_size (entries_in n (drop from s)) ≡ size
    unfolding total
    first_end h =
        omega (arith, w.bytes ∙ ap (λ (xs : List Stored). size + total stored_size xs) (no_entry (n - many) (drop (from + size) s) (omega arith)))

    module _ (more : many < n) where
      pub first_shaped : shaped (drop (from + size) s) ≡ true
      first_shaped = (next_shaped (count - many) (drop (from + size) s) (omega arith) w.left).0

      pub first_shape : Shape (drop (from + size) s)
      first_shape =
          shape (drop (from + size) s) (next_shaped (count - many) (drop (from + size) s) (omega arith) w.left).0

      pub first_within : from + size + size_in (drop (from + size) s) ≤ length s
      unfolding size_in
      first_within = omega (arith, first_shape.whole, first_shape.numbers, length-drop (from + size) s)

      pub first_numbers : from + size + 16 ≤ length s
      first_numbers = omega (arith, first_shape.numbers, length-drop (from + size) s)

      pub first_on : First s from count n (size + size_in (drop (from + size) s)) (many + 1)
      unfolding total
      first_on =
          let t = drop (from + size) s in
          let b = size_in t in
          let k : count - many - 1 ≡ count - (many + 1) = omega arith in
          let j : n - many - 1 ≡ n - (many + 1) = omega arith in
          let d : drop b t ≡ drop (from + (size + b)) s = drop-drop b (from + size) s ∙ ap (λ (i : ℕ). drop i s) (add_assoc from size b) in
          let e : entries_in (n - many) t ≡ stored_in t ∷ entries_in (n - (many + 1)) (drop (from + (size + b)) s) =
          next_entry (n - many) t (omega arith)
          ∙ ap (λ (i : ℕ). stored_in t ∷ entries_in i (drop b t)) j
          ∙ ap (λ (x : Bytes). stored_in t ∷ entries_in (n - (many + 1)) x) d in
          record {
            within = omega arith;
            left =
                ap (λ (x : Bytes). shaped_all (count - (many + 1)) x) (sym d)
                ∙ ap (λ (i : ℕ). shaped_all i (drop b t)) (sym k)
                ∙ (next_shaped (count - many) t (omega arith) w.left).1;
            bytes = omega (arith, w.bytes ∙ ap (λ (xs : List Stored). size + total stored_size xs) e, stored_size_lem t first_shape);
          }

-- What is left behind the entries that were passed over.
pub record Behind (n : ℕ) (s : Bytes) (passed kept : List Stored) : Type 0 where
  pub left : shaped_all (n - length passed) (drop (total stored_size passed) s) ≡ true
  pub entries : entries_in (n - length passed) (drop (total stored_size passed) s) ≡ kept

behind_none : (n : ℕ) (s : Bytes) → shaped_all n s ≡ true → Behind n s [] (entries_in n s)
unfolding total
behind_none n s h =
    let e : n - 0 ≡ n = omega arith in
    record { left = rw e h; entries = rw e refl }

behind_one : (n : ℕ) (s : Bytes) (passed kept : List Stored) → Shape s → Behind n (drop (size_in s) s) passed kept
    → Behind (suc n) s (stored_in s ∷ passed) kept
unfolding total
behind_one n s passed kept h b =
    let e : suc n - suc (length passed) ≡ n - length passed = omega arith in
    let d : drop (stored_size (stored_in s) + total stored_size passed) s ≡ drop (total stored_size passed) (drop (size_in s) s) =
    ap (λ (k : ℕ). drop (k + total stored_size passed) s) (stored_size_lem s h) ∙ sym (drop-drop (total stored_size passed) (size_in s) s) in
    record { left = rw (e, d) b.left; entries = rw (e, d) b.entries }

pub after_left : (p : Stored → Bool) (n : ℕ) (s : Bytes) → shaped_all n s ≡ true → Behind n s (whilst p (entries_in n s)) (after p (entries_in n s))
unfolding entries_in whilst after
after_left p zero s h = behind_none zero s h
after_left p (suc n) s h =
    let a = next_shaped (suc n) s (omega arith) h in
    let b = after_left p n (drop (size_in s) s) (ap (λ (k : ℕ). shaped_all k (drop (size_in s) s)) (sym (suc_less n)) ∙ a.1) in
    branch (p (stored_in s)) (λ _. behind_one n s _ _ (shape s a.0) b) (λ _. behind_none (suc n) s h)
  where
    branch : (t : Bool) → (t ≡ true → Behind (suc n) s (stored_in s ∷ whilst p (entries_in n (drop (size_in s) s))) (after p (entries_in n (drop (size_in s) s))))
        → (t ≡ false → Behind (suc n) s [] (stored_in s ∷ entries_in n (drop (size_in s) s)))
        → Behind (suc n) s (if t then stored_in s ∷ whilst p (entries_in n (drop (size_in s) s)) else []) (if t then after p (entries_in n (drop (size_in s) s)) else stored_in s ∷ entries_in n (drop (size_in s) s))
    branch true f g = f refl
    branch false f g = g refl

whilst_length : {A : Type 0} (p : A → Bool) (xs : List A) → length (whilst p xs) ≤ length xs
unfolding whilst
whilst_length p [] = omega arith
whilst_length p (x ∷ xs) = branch (p x) (whilst_length p xs)
  where
    branch : (t : Bool) → length (whilst p xs) ≤ length xs → length (if t then x ∷ whilst p xs else []) ≤ suc (length xs)
    branch true h = omega arith
    branch false h = omega arith

-- the same by the numbers that were counted
pub record Rest (p : Stored → Bool) (n : ℕ) (s : Bytes) (size many : ℕ) : Type 0 where
  pub within : many ≤ n
  pub left : shaped_all (n - many) (drop size s) ≡ true
  pub entries : entries_in (n - many) (drop size s) ≡ after p (entries_in n s)

pub rest : (p : Stored → Bool) (n : ℕ) (s : Bytes) (size many : ℕ) → shaped_all n s ≡ true
    → size ≡ total stored_size (whilst p (entries_in n s)) → many ≡ length (whilst p (entries_in n s)) → Rest p n s size many
rest p n s size many h a b =
    let left = after_left p n s h in
    record {
      within = omega (arith, b, whilst_length p (entries_in n s), entries_length n s);
      left = rw (a, b) left.left;
      entries = rw (a, b) left.entries;
    }
