-- Where the parts of what is held begin, by the layout of crates/format/specs/Layout.antt. Type and body begin their stores, the value of
-- a header alone stands behind 16 bytes. Assumes nothing.
use Rattle.std.specs.Prelude.{ℕ, ◌+◌, length}
use Rattle.std.proofs.Math.Option.{Option, none, some}
use Rattle.format.specs.Bytes.{Bytes, total}
use Rattle.format.specs.Message.{LoneHeader, Message, need_header}
use Rattle.lookup_part.specs.AddressSpan.{opening_place}
use Rattle.lookup_places.specs.Spots.{entry_place}

-- the name of the n-th content header; content headers stand behind the headers
unfoldable pub content_place : Option Message → ℕ → ℕ
content_place none n = 0
content_place (some m) n = entry_place (256 + total need_header m.headers) m.contents n

-- the name of the n-th parameter of a header alone; parameters stand behind its value
unfoldable pub alone_param_place : Option LoneHeader → ℕ → ℕ
alone_param_place none n = 0
alone_param_place (some h) n = entry_place (16 + length h.value) h.params n

-- the address in a value: behind the first `<` outside a quoted string
unfoldable pub address_place : Bytes → ℕ
address_place v = opening_place v + 1
