-- Entries read from a store: what stands where in bytes that begin with one, by the layout of crates/format/specs/Layout.antt.
-- Assumes nothing.
use Rattle.std.specs.Prelude.{ℕ, zero, suc, ◌+◌, ◌*◌, Bool, ◌&&◌, List, [], ◌∷◌, leb, ltb, eqb, length, take, drop, get_or}
use Rattle.format.specs.Bytes.{Bytes, is_empty, all, texts}
use Rattle.format.specs.Message.{Entry, Header}
use Rattle.format.specs.Layout.{entry_bytes, layout_entry}

-- An entry as it is stored: name, value, and how many parameters take the bytes behind them.
pub record Stored : Type 0 where
  pub name : Bytes
  pub value : Bytes
  pub params : ℕ
  pub tail : Bytes

unfoldable pub stored_bytes : Stored → Bytes
stored_bytes e = entry_bytes e.name e.value e.params e.tail

unfoldable pub stored_size : Stored → ℕ
stored_size e = 16 + (length e.name + (length e.value + length e.tail))

-- a parameter or a content header as it is stored: it has no parameters
unfoldable pub stored_entry : Entry → Stored
stored_entry e = record { name = e.name; value = e.value; params = 0; tail = [] }

-- a header as it is stored
unfoldable pub stored_header : Header → Stored
stored_header h = record { name = h.name; value = h.value; params = length h.params; tail = texts layout_entry h.params }

-- the numbers that an entry begins with
unfoldable pub name_length : Bytes → ℕ
name_length s = get_or s 0 0

unfoldable pub value_length : Bytes → ℕ
value_length s = get_or s 1 0 + 256 * get_or s 2 0

unfoldable pub param_count : Bytes → ℕ
param_count s = get_or s 3 0

unfoldable pub tail_length : Bytes → ℕ
tail_length s = get_or s 4 0 + 256 * get_or s 5 0

-- how many bytes it takes
unfoldable pub size_in : Bytes → ℕ
size_in s = 16 + (name_length s + (value_length s + tail_length s))

-- its parts
unfoldable pub name_in : Bytes → Bytes
name_in s = take (name_length s) (drop 16 s)

unfoldable pub value_in : Bytes → Bytes
value_in s = take (value_length s) (drop (16 + name_length s) s)

unfoldable pub tail_in : Bytes → Bytes
tail_in s = take (tail_length s) (drop (16 + (name_length s + value_length s)) s)

-- the entry that s begins with
unfoldable pub stored_in : Bytes → Stored
stored_in s = record { name = name_in s; value = value_in s; params = param_count s; tail = tail_in s }

-- s begins with the bytes of an entry: its numbers, of which those of two bytes are so, ten zeros, and all that they count
unfoldable pub shaped : Bytes → Bool
shaped s =
    leb 16 (length s)
    && (all (eqb 0) (take 10 (drop 6 s)) && (leb (size_in s) (length s) && (ltb (get_or s 1 0) 256 && ltb (get_or s 4 0) 256)))

-- s is n entries, one behind another
unfoldable pub shaped_all : ℕ → Bytes → Bool
shaped_all zero s = is_empty s
shaped_all (suc n) s = shaped s && shaped_all n (drop (size_in s) s)

-- the n entries that s begins with
unfoldable pub entries_in : ℕ → Bytes → List Stored
entries_in zero s = []
entries_in (suc n) s = stored_in s ∷ entries_in n (drop (size_in s) s)
