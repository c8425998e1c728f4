-- Rows written one behind another, as the entries stand in the store. What is written and what is left make the whole (`Written`).
-- Assumes nothing.
use Prim.Native.Nat.{ℕ, zero, suc, ◌+◌, ◌-◌, ◌*◌, ◌≤◌, ◌<◌}
use mathlib.Core.Path.{◌≡◌, refl, sym, ◌∙◌}
use mathlib.Core.Bool.{true}
use mathlib.Core.List.{List, [], ◌∷◌, ◌++◌}
use native.Mathlib.Omega.{arith}
use lib.ListN.{length, drop, length-drop}
use lib.Seq.{drop-drop}
use Rattle.format.specs.Bytes.{Bytes, pasted, over}
use Rattle.format.proofs.Rulesets.{tests}
use Rattle.octets.proofs.Paste.{pasted_start}
use Rattle.octets.proofs.Written.{Written, written_none, written-more, written_all, written_length}
use Rattle.store_entries.specs.Stored.{name_length, value_length, param_count}
use Rattle.store_entries.proofs.Sequences.{suc_less}
use Rattle.lookup_places.specs.Fronts.{front_in, fronted, rows_in}

abbrev row : ℕ → Bytes → List ℕ
row at s = (at + 16) ∷ name_length s ∷ value_length s ∷ param_count s ∷ []

-- the first entry, and those behind it
next_front : (n : ℕ) (s : Bytes) → 0 < n → fronted n s ≡ true → (front_in s ≤ length s) × (fronted (n - 1) (drop (front_in s) s) ≡ true)
unfolding fronted
next_front zero s h f = absurd (omega arith)
next_front (suc n) s h f = rw (suc_less n) (simp tests at f)

next_row : (n at : ℕ) (s : Bytes) → 0 < n → rows_in n at s ≡ row at s ++ rows_in (n - 1) (at + front_in s) (drop (front_in s) s)
unfolding rows_in
next_row zero at s h = absurd (omega arith)
next_row (suc n) at s h = rw (suc_less n) refl

no_row : (n at : ℕ) (s : Bytes) → n ≡ 0 → rows_in n at s ≡ []
unfolding rows_in
no_row zero at s h = refl
no_row (suc n) at s h = absurd (omega arith)

rows_length : (n at : ℕ) (s : Bytes) → length (rows_in n at s) ≡ 4 * n
unfolding rows_in
rows_length zero at s = refl
rows_length (suc n) at s = omega (arith, rows_length n (at + front_in s) (drop (front_in s) s))

-- i of so many rows have been written over d, which gave out; the next entry stands at the place at
pub record Rowed (s : Bytes) (d out : List ℕ) (rows at i : ℕ) : Type 0 where
  pub within : i ≤ rows
  pub room : 4 * rows ≤ length d
  pub left : fronted (rows - i) (drop at s) ≡ true
  pub written : Written (rows_in rows 256 (drop 256 s)) d out 0 (4 * i) (rows_in (rows - i) at (drop at s))

module _ (s : Bytes) (d : List ℕ) (rows : ℕ) where
  pub rowed_start : fronted rows (drop 256 s) ≡ true → 4 * rows ≤ length d → Rowed s d d rows 256 0
  rowed_start h r =
      let e : rows - 0 ≡ rows = omega arith in
      record {
        within = omega arith;
        room = r;
        left = rw e h;
        written = rw e (written_none (rows_in rows 256 (drop 256 s)) d 0);
      }

  module _ (out : List ℕ) (at i : ℕ) (w : Rowed s d out rows at i) where
    fits : 0 + length (rows_in rows 256 (drop 256 s)) ≤ length d
    fits = omega (arith, rows_length rows 256 (drop 256 s), w.room)

    pub rowed_length : length out ≡ length d
    rowed_length = (written_length w.written fits).0

    pub rowed_end : rows ≤ i → out ≡ over (rows_in rows 256 (drop 256 s)) d
    rowed_end h = (written_all w.written fits (no_row (rows - i) at (drop at s) (omega arith))).1 ∙ pasted_start (rows_in rows 256 (drop 256 s)) d

    module _ (more : i < rows) where
      front : front_in (drop at s) ≤ length (drop at s)
      front = (next_front (rows - i) (drop at s) (omega arith) w.left).0

      pub rowed_front : at + front_in (drop at s) ≤ length s
      unfolding front_in
      rowed_front = omega (arith, front, length-drop at s)

      pub rowed_numbers : at + 16 ≤ length s
      unfolding front_in
      rowed_numbers = omega (arith, rowed_front)

      pub rowed_room : 4 * i + 4 ≤ length out
      rowed_room = omega (arith, rowed_length, w.room)

      turned : (now : List ℕ) → now ≡ pasted (4 * i) (row at (drop at s)) out → Rowed s d now rows (at + front_in (drop at s)) (i + 1)
      turned now e =
          let t = drop at s in
          let k : rows - i - 1 ≡ rows - (i + 1) = omega arith in
          let b : drop (front_in t) t ≡ drop (at + front_in t) s = drop-drop (front_in t) at s in
          record {
            within = omega arith;
            room = w.room;
            left = (λ j. fronted (sym k j) (sym b j)) ∙ (next_front (rows - i) t (omega arith) w.left).1;
            written =
                written-more w.written fits (row at t) (rows_in (rows - (i + 1)) (at + front_in t) (drop (at + front_in t) s)) now (4 * (i + 1))
                (next_row (rows - i) at t (omega arith) ∙ (λ j. row at t ++ rows_in (k j) (at + front_in t) (b j)))
                e
                (omega arith);
          }

      pub rowed_on : (name value params : ℕ) (now : List ℕ) → name ≡ name_length (drop at s) → value ≡ value_length (drop at s) → params ≡ param_count (drop at s)
          → now ≡ pasted (4 * i) ((at + 16) ∷ name ∷ value ∷ params ∷ []) out → Rowed s d now rows (at + (16 + (name + value))) (i + 1)
      unfolding front_in
      rowed_on name value params now f g h e =
          rw (f, g) (turned now (e ∙ (λ j. pasted (4 * i) ((at + 16) ∷ f j ∷ g j ∷ h j ∷ []) out)))
