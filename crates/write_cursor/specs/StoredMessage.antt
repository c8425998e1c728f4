-- The message that stands in these bytes: n headers, a type, k content headers and a body. Assumes nothing.
use Rattle.std.specs.Prelude.{ℕ}
use Rattle.format.specs.Bytes.{Bytes}
use Rattle.format.specs.Message.{Message}
use Rattle.store_entry_check.specs.FromBytes.{entries_from, headers_from}

abbrev pub message_of : ℕ → Bytes → Bytes → ℕ → Bytes → Bytes → Message
message_of n headers type k contents body =
    record { headers = headers_from n headers; type = type; contents = entries_from k contents; body = body }
