-- The value that a lent text stands for, by its notation. Assumes nothing.
use Rattle.std.specs.Prelude.{ℕ, ◌≡◌, Bool, true, length, is_some}
use Rattle.std.proofs.Math.Option.{Option, some}
use Rattle.format.specs.Bytes.{Bytes}
use Rattle.format.specs.Escaping.{unescape_by}
use Rattle.unescape.specs.Reads.{measured, value_of}
use Rattle.store_splice.specs.declared.Notation.{Notation}
use Rattle.store_splice.specs.declared.Notation.TheVariants.{Plain, Escaped}

-- what a text reads as; a plain one always reads, as itself
abbrev pub read_as : Notation → Bytes → Option Bytes
read_as Plain s = some s
read_as (Escaped r) s = unescape_by r s

-- whether a text reads
abbrev pub reads : Notation → Bytes → Bool
reads n s = is_some (measured (read_as n s))

-- the value of a text that reads
abbrev pub value_read : Notation → Bytes → Bytes
value_read n s = value_of (read_as n s)

-- A text reads, as a value of so many bytes.
abbrev pub Sized : Notation → Bytes → ℕ → Type 0
Sized n s size = (reads n s ≡ true) × (size ≡ length (value_read n s))
