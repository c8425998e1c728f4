-- What a text with escapes reads as, by its length and by its bytes. Assumes nothing.
use Rattle.std.specs.Prelude.{ℕ, [], length}
use Rattle.std.specs.Prelude as std
use Rattle.std.proofs.Math.Option.{Option, none, some}
use Rattle.format.specs.Bytes.{Bytes}

-- how long what a text reads as is; none where it does not read
abbrev pub measured : Option Bytes → std.Option ℕ
measured none = std.None
measured (some v) = std.Some (length v)

-- what a text reads as; nothing where it does not read
abbrev pub value_of : Option Bytes → Bytes
value_of none = []
value_of (some v) = v
