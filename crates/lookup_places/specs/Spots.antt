-- What a lookup answers by place: whether there is such a part, where it begins in the store, and how long it is; of an entry where the
-- name begins, the lengths of name and value, and the value stands right behind the name. Absent is all zeros. Assumes nothing.
use Rattle.std.specs.Prelude.{ℕ, ◌+◌, ◌≤◌, ◌≡◌, true, false, List, length, take, drop, if◌then◌else◌}
use Rattle.std.proofs.Math.Option.{Option, none, some}
use Rattle.format.specs.Bytes.{Bytes, total}
use Rattle.format.specs.Message.{Entry, need_entry}
use Rattle.lookup_places.specs.declared.spots.Part.{Part}
use Rattle.lookup_places.specs.declared.spots.Pair.{Pair}

abbrev pub no_part : Part
no_part = record { found = false; start = 0; length = 0 }

abbrev pub no_pair : Pair
no_pair = record { found = false; start = 0; name = 0; value = 0 }

-- the part that stands at a place
abbrev pub part_at : ℕ → Option Bytes → Part
part_at at none = no_part
part_at at (some s) = record { found = true; start = at; length = length s }

-- the entry whose name begins at a place
abbrev pub pair_at : ℕ → Option Entry → Pair
pair_at at none = no_pair
pair_at at (some e) = record { found = true; start = at; name = length e.name; value = length e.value }

-- the bytes of a store where an answer says
abbrev pub part_in : Bytes → Part → Option Bytes
part_in s p = if p.found then some (take p.length (drop p.start s)) else none

abbrev pub pair_in : Bytes → Pair → Option Entry
pair_in s p = if p.found then some (record { name = take p.name (drop p.start s); value = take p.value (drop (p.start + p.name) s) }) else none

-- p is the answer where o is looked up, which stands at the place at: its numbers are o's, and o is what stands there in the store s
pub record PartIs (s : Bytes) (at : ℕ) (o : Option Bytes) (p : Part) : Type 0 where
  pub told : p ≡ part_at at o
  pub there : part_in s p ≡ o
  pub within : p.start + p.length ≤ length s

pub record PairIs (s : Bytes) (at : ℕ) (o : Option Entry) (p : Pair) : Type 0 where
  pub told : p ≡ pair_at at o
  pub there : pair_in s p ≡ o
  pub within : p.start + (p.name + p.value) ≤ length s

-- where the name of the n-th begins of entries that stand one behind another from a place on: behind the entries before it, and the 16
-- bytes of its numbers
abbrev pub entry_place : ℕ → List Entry → ℕ → ℕ
entry_place from es n = from + total need_entry (take n es) + 16
