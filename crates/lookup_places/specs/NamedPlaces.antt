-- Where the headers of a name, their values and parameters begin, by the layout of crates/format/specs/Layout.antt. Assumes nothing.
use Rattle.std.specs.Prelude.{ℕ, ◌+◌, ◌≡◌, ◌++◌, length, take, drop}
use Rattle.std.proofs.Math.Option.{Option, none, some}
use Rattle.format.specs.Bytes.{Bytes, total}
use Rattle.format.specs.Message.{Header, Message, name_of, only, need_header}
use Rattle.format.specs.Layout.{layout_header}
use Rattle.store_entries.specs.Groups.{low}
use Rattle.lookup_places.specs.Spots.{entry_place}

-- the n-th header of a name: behind the headers of names before it, and those of the name before it
unfoldable pub header_place : Option Message → Bytes → ℕ → ℕ
header_place none name n = 0
header_place (some m) name n = 256 + total need_header (low name_of name m.headers) + total need_header (take n (only name_of name m.headers))

-- the value of a header that begins at a place: behind the 16 bytes of numbers, and the name
unfoldable pub value_place : ℕ → Option Header → ℕ
value_place at none = 0
value_place at (some h) = at + (16 + length h.name)

-- the name of its n-th parameter: parameters stand behind the value
unfoldable pub param_place : ℕ → Option Header → ℕ → ℕ
param_place at none n = 0
param_place at (some h) n = entry_place (at + (16 + (length h.name + length h.value))) h.params n

-- the header h stands in s at a place, and more bytes behind it
pub record HeaderAt (s : Bytes) (at : ℕ) (h : Header) : Type 0 where
  pub more : Bytes
  pub bytes : drop at s ≡ layout_header h ++ more

-- what is answered where a header is looked for that stands at a place
abbrev pub SpotIs : Bytes → ℕ → Option Header → Option ℕ → Type 0
SpotIs s at none r = r ≡ none
SpotIs s at (some h) r = (r ≡ some at) × HeaderAt s at h
