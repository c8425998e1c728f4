-- Where the entries of a message stand in the head store that holds it: a row of four numbers for each. The layout of
-- crates/format/specs/Layout.antt puts an entry's name 16 bytes behind its place, the value right behind the name, and the next
-- entry, which may be a parameter of this one, right behind the value. That the bytes there are the name and the value is proved in
-- proofs/Laid.antt (`row_there`). Assumes nothing.
use Rattle.std.specs.Prelude.{ℕ, ◌+◌, ◌*◌, ◌≡◌, List, [], ◌∷◌, ◌++◌, map, length}
use Rattle.std.proofs.Math.Option.{Option, none, some}
use Rattle.format.specs.Bytes.{Bytes}
use Rattle.format.specs.Refusals.{Out, accepted, refused, nothing_held, numbers, ◌>>◌}
use Rattle.format.specs.Message.{Entry, Header, Message}
use Rattle.format.specs.Calls.{enough}
use Rattle.format.specs.Writing.{writes}
use Rattle.format.specs.Layout.{Lent, Held}
use Rattle.format.specs.declared.Numbers.{Numbers}

-- A header, a parameter or a content header: its name, its value, and how many parameters follow it.
pub record Item : Type 0 where
  pub name : Bytes
  pub value : Bytes
  pub params : ℕ

-- a parameter or a content header has no parameters
abbrev pub entry_item : Entry → Item
entry_item e = record { name = e.name; value = e.value; params = 0 }

abbrev pub header_item : Header → Item
header_item h = record { name = h.name; value = h.value; params = length h.params }

-- each header, right behind it its parameters
unfoldable pub header_items : List Header → List Item
header_items [] = []
header_items (h ∷ hs) = header_item h ∷ (map entry_item h.params ++ header_items hs)

-- the headers in map order, then the content headers
unfoldable pub items_of : Message → List Item
items_of m = header_items m.headers ++ map entry_item m.contents

-- the bytes from an item's place to the next one's
unfoldable pub item_size : Item → ℕ
item_size x = 16 + (length x.name + length x.value)

-- the row of an item that stands at a place: where its name begins, the name's length, the value's length, how many parameters
abbrev pub row_of : ℕ → Item → List ℕ
row_of at x = (at + 16) ∷ length x.name ∷ length x.value ∷ x.params ∷ []

-- the rows of items, one behind another from a place on
unfoldable pub rows_from : ℕ → List Item → List ℕ
rows_from at [] = []
rows_from at (x ∷ xs) = row_of at x ++ rows_from (at + item_size x) xs

-- the entries of a message begin behind the first 256 bytes
unfoldable pub rows_of : Message → List ℕ
rows_of m = rows_from 256 (items_of m)

-- the bytes that so many numbers take: a number is a `usize` of 64 bits, which are 8 bytes
unfoldable pub number_bytes : ℕ → ℕ
number_bytes n = 8 * n

-- 25 carrying 0 where nothing is held, then 26 carrying the bytes needed, where the output has room for so many numbers
unfoldable pub places_of : Option Message → ℕ → Out (List ℕ)
places_of none room = refused nothing_held
places_of (some m) room = do
  enough (number_bytes room) (number_bytes (length (rows_of m)))
  accepted (rows_of m)

-- what `places` ensures: l is what it is lent, n what it answers, and the rows are over the first numbers of out
pub record Placed (l : Lent) (out written : List ℕ) (n : Numbers) : Type 0 where
  pub answered : (o : Option Message) → Held l o → n ≡ numbers (places_of o (length out))
  pub left : (o : Option Message) → Held l o → written ≡ writes out (places_of o (length out))
