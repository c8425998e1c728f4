-- The rows as they are read from the store, where a header and each of its parameters are entries one behind another: what an entry
-- begins with, its name and its value. Assumes nothing.
use Rattle.std.specs.Prelude.{ℕ, zero, suc, ◌+◌, ◌-◌, Bool, true, ◌&&◌, List, [], ◌∷◌, leb, length, take, drop}
use Rattle.format.specs.Bytes.{Bytes, total}
use Rattle.format.specs.declared.CpimMessage.{CpimMessage}
use Rattle.store_entries.specs.Stored.{name_length, value_length, param_count, entries_in}

-- the bytes of an entry up to its parameters
unfoldable pub front_in : Bytes → ℕ
front_in s = 16 + (name_length s + value_length s)

-- s begins with n of them
unfoldable pub fronted : ℕ → Bytes → Bool
fronted zero s = true
fronted (suc n) s = leb (front_in s) (length s) && fronted n (drop (front_in s) s)

-- their rows, s being at a place
unfoldable pub rows_in : ℕ → ℕ → Bytes → List ℕ
rows_in zero at s = []
rows_in (suc n) at s = (at + 16) ∷ name_length s ∷ value_length s ∷ param_count s ∷ rows_in n (at + front_in s) (drop (front_in s) s)

-- how many rows there are: the headers, the parameters of all, the content headers
unfoldable pub rows_held : CpimMessage → Bytes → ℕ
rows_held m head = m.headers + total (λ e. e.params) (entries_in m.headers (take (256 + m.headerlen - 256) (drop 256 head))) + m.contents
