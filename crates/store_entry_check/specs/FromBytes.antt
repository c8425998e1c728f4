-- The entries, or the headers, that bytes are where they pass (specs/EntriesHold.antt). Assumes nothing.
use Rattle.std.specs.Prelude.{ℕ, List, map}
use Rattle.format.specs.Bytes.{Bytes}
use Rattle.format.specs.Message.{Entry, Header}
use Rattle.store_entries.specs.Stored.{Stored, entries_in}

-- a parameter or a content header
unfoldable pub entry_from : Stored → Entry
entry_from e = record { name = e.name; value = e.value }

-- the n of them that s is
unfoldable pub entries_from : ℕ → Bytes → List Entry
entries_from n s = map entry_from (entries_in n s)

-- a header with its parameters
unfoldable pub header_from : Stored → Header
header_from e = record { name = e.name; value = e.value; params = entries_from e.params e.tail }

-- the n of them that s is
unfoldable pub headers_from : ℕ → Bytes → List Header
headers_from n s = map header_from (entries_in n s)
