-- The message, or the header alone, that a record and a store hold where they hold one (specs/Holding.antt). Assumes nothing.
use Rattle.std.specs.Prelude.{take}
use Rattle.format.specs.Bytes.{Bytes}
use Rattle.format.specs.Message.{LoneHeader, Message}
use Rattle.format.specs.declared.CpimMessage.{CpimMessage}
use Rattle.format.specs.declared.CpimHeader.{CpimHeader}
use Rattle.store_entry_check.specs.FromBytes.{entries_from, headers_from}
use Rattle.store_check.specs.Holding.{type_part, headers_part, contents_part, value_part, params_part}

-- the message, with this body
unfoldable pub message_in : CpimMessage → Bytes → Bytes → Message
message_in m head b =
    record {
      headers = headers_from m.headers (headers_part m head);
      type = take m.typelen (type_part head);
      contents = entries_from m.contents (contents_part m head);
      body = b;
    }

-- the header alone
unfoldable pub header_in : CpimHeader → Bytes → LoneHeader
header_in r store = record { value = value_part r store; params = entries_from r.params (params_part r store) }
