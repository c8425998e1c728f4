-- The headers of a name, as a list. Assumes nothing.
use Rattle.std.specs.Prelude.{List, [], if◌then◌else◌}
use Rattle.std.proofs.Math.Option.{Option, none, some}
use Rattle.format.specs.Bytes.{Bytes}
use Rattle.format.specs.Characters.{is_utf8}
use Rattle.format.specs.Message.{Header, Message, name_of, only}

-- none where nothing is held, and for a name that is not UTF-8
unfoldable pub headers_named : Option Message → Bytes → List Header
headers_named none name = []
headers_named (some m) name = if is_utf8 name then only name_of name m.headers else []
