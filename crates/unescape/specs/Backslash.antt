-- Which escape of document 01's definitions one of the code's is. Assumes nothing.
use Rattle.std.specs.Prelude as std
use Rattle.std.proofs.Math.Option.{Option, none, some}
use Rattle.format.specs.Characters.{encoding}
use Rattle.format.specs.Escaping.{Escape}
use Rattle.unescape.specs.declared.backslash.Escape as code

-- the escape that a code point and a count of bytes behind the backslash stand for
abbrev pub meant : code.Escape → Escape
meant e = record { stands = encoding e.code; takes = e.takes }

abbrev pub escape_of : std.Option code.Escape → Option Escape
escape_of std.None = none
escape_of (std.Some e) = some (meant e)
