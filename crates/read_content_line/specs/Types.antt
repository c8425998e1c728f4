-- A type as it stands in the head store. Assumes nothing.
use Rattle.std.specs.Prelude.{◌-◌, ◌++◌, length, replicate}
use Rattle.format.specs.Bytes.{Bytes}

-- a type and the zeros behind it, 256 bytes
unfoldable pub type_bytes : Bytes → Bytes
type_bytes t = t ++ replicate (256 - length t) 0
