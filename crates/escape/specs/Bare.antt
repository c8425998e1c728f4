-- The bytes of a value that document 01, "Escaping", writes as they are wherever they stand. The law that says so is `bare_escape` in
-- proofs/BareBytes.antt. Assumes nothing.
use Rattle.std.specs.Prelude.{ℕ, Bool, not, ◌||◌, ltb, eqb}
use Rattle.format.specs.Bytes.{backslash, quote}

-- a byte below 32
abbrev pub is_low : ℕ → Bool
is_low b = ltb b 32

-- the byte is written as it is, whatever stands around it
unfoldable pub is_bare : ℕ → Bool
is_bare b = not (is_low b || (eqb quote b || (eqb backslash b || (eqb 0x7F b || eqb 0xC2 b))))
