-- Whether a record and a store hold a message, or a header alone, as a walk over any bytes at all: lengths and counts, then entry by
-- entry. proofs/HeldDecided.antt has that this is `Holds` of crates/format/specs/Layout.antt. Assumes nothing.
use Rattle.std.specs.Prelude.{ℕ, ◌+◌, ◌-◌, Bool, ◌&&◌, [], leb, eqb, length, take, drop}
use Rattle.format.specs.Bytes.{Bytes, all}
use Rattle.format.specs.Characters.{is_utf8}
use Rattle.format.specs.Limits.{max_headers, max_params, max_contents, max_body}
use Rattle.format.specs.Refusals.{passes}
use Rattle.format.specs.Validators.{header_value, content_type}
use Rattle.format.specs.declared.CpimMessage.{CpimMessage}
use Rattle.format.specs.declared.CpimHeader.{CpimHeader}
use Rattle.store_entry_check.specs.declared.kinds.Kind.TheVariants.{Param, Content}
use Rattle.store_entry_check.specs.EntriesHold.{entries_hold, headers_hold}

-- the first 256 bytes are a type of n bytes, and zeros
unfoldable pub type_holds : ℕ → Bytes → Bool
type_holds n s = passes (content_type (take n s)) && (is_utf8 (take n s) && all (eqb 0) (drop n s))

-- the record's numbers are within limits and within a store of so many bytes
unfoldable pub numbers_hold : CpimMessage → ℕ → Bool
numbers_hold m store =
    leb 256 store
    && (leb m.typelen 256
    && (leb m.headerlen (store - 256)
    && (leb m.contentlen (store - 256 - m.headerlen)
    && (leb m.headers max_headers && (leb m.contents max_contents && leb m.bodylen max_body)))))

-- the parts of the head store
abbrev pub type_part : Bytes → Bytes
type_part head = take 256 head

abbrev pub headers_part : CpimMessage → Bytes → Bytes
headers_part m head = take m.headerlen (drop 256 head)

abbrev pub contents_part : CpimMessage → Bytes → Bytes
contents_part m head = take m.contentlen (drop (256 + m.headerlen) head)

-- Record and head store hold a message.
unfoldable pub message_holds : CpimMessage → Bytes → Bool
message_holds m head =
    numbers_hold m (length head)
    && (type_holds m.typelen (type_part head)
    && (headers_hold m.headers (headers_part m head) && entries_hold Content m.contents [] (contents_part m head)))

-- the parts of the header store
abbrev pub value_part : CpimHeader → Bytes → Bytes
value_part h store = take h.valuelen (drop 16 store)

abbrev pub params_part : CpimHeader → Bytes → Bytes
params_part h store = take (h.size - (16 + h.valuelen)) (drop (16 + h.valuelen) store)

-- the record's numbers are within limits and within a store of so many bytes
unfoldable pub sizes_hold : CpimHeader → ℕ → Bool
sizes_hold h store = leb h.size store && (leb 16 h.size && (leb h.valuelen (h.size - 16) && leb h.params max_params))

-- Record and header store hold a header alone.
unfoldable pub header_holds : CpimHeader → Bytes → Bool
header_holds h store =
    sizes_hold h (length store)
    && (all (eqb 0) (take 16 store)
    && (passes (header_value (value_part h store)) && (is_utf8 (value_part h store) && entries_hold Param h.params [] (params_part h store))))
