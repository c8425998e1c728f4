-- Lines of entries, written one behind another: every loop of `lines` carries it. Assumes nothing.
use Prim.Native.Nat.{ℕ, ◌+◌, ◌≤◌, ◌<◌}
use mathlib.Core.Path.{◌≡◌, sym, ap, ◌∙◌}
use mathlib.Core.Bool.{true}
use mathlib.Core.List.{List, [], ◌++◌, map}
use native.Mathlib.Omega.{arith}
use lib.ListN.{length, drop}
use Rattle.format.specs.Bytes.{Bytes, texts, pasted}
use Rattle.octets.proofs.Paste.{pasted_nil}
use Rattle.octets.proofs.Written.{Written, written_length, written_all}
use Rattle.store_entries.specs.Stored.{Stored, size_in, stored_in, shaped_all, entries_in}
use Rattle.write_parts.proofs.StoreWalk.{left, left_start, left_end, left_next, Passing, passing_start, passing_on}
use Rattle.write_parts.proofs.LineParts.{part_room, part_put}

module _ {A : Type 0} (f : Stored → A) (line : A → Bytes) where
  -- the lines of entries as they are stored
  abbrev pub lines_of : List Stored → Bytes
  lines_of es = texts line (map f es)

  -- the lines of i of count entries are written
  pub record Lined (whole s d out : Bytes) (count at to from i : ℕ) : Type 0 where
    pub passing : Passing s count from i
    pub written : Written whole d out at to (lines_of (left s count from i))

  module _ {whole s d : Bytes} {count at : ℕ} where
    pub lined_from : whole ≡ lines_of (entries_in count s) → Passing s count 0 0 → Lined whole s d d count at at 0 0
    lined_from e p =
        record {
          passing = p;
          written = record { done = []; parts = e ∙ ap lines_of (left_start s count); place = omega arith; bytes = sym (pasted_nil at d) };
        }

    pub lined_start : whole ≡ lines_of (entries_in count s) → shaped_all count s ≡ true → Lined whole s d d count at at 0 0
    lined_start e h = lined_from e (passing_start s count h)

    module _ {out : Bytes} {to from i : ℕ} (w : Lined whole s d out count at to from i) (h : at + length whole ≤ length d) where
      pub lined_length : length out ≡ length d
      lined_length = (written_length w.written h).0

      pub lined_all : count ≤ i → (to ≡ at + length whole) × (out ≡ pasted at whole d)
      unfolding texts
      lined_all end = written_all w.written h (ap lines_of (left_end s count from i end))

      module _ (more : i < count) where
        abbrev here : Bytes
        here = line (f (stored_in (drop from s)))

        abbrev behind : Bytes
        behind = lines_of (left s count (from + size_in (drop from s)) (i + 1))

        next : lines_of (left s count from i) ≡ here ++ behind
        unfolding texts
        next = ap lines_of (left_next s count from i more)

        pub lined_room : to + length (line (f (stored_in (drop from s)))) ≤ length out
        lined_room = part_room w.written h here behind next

        pub lined_on : {now : Bytes} {place : ℕ}
            → (place ≡ to + length (line (f (stored_in (drop from s))))) × (now ≡ pasted to (line (f (stored_in (drop from s)))) out)
            → Lined whole s d now count at place (from + size_in (drop from s)) (i + 1)
        lined_on p = record { passing = passing_on s count from i w.passing more; written = part_put w.written h here behind next p }
