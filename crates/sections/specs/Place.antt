-- The place at which a text is cut: that of the pattern's first occurrence, or the text's length. Assumes nothing.
use Rattle.std.specs.Prelude.{ℕ, length}
use Rattle.format.specs.Bytes.{Bytes, split}

-- how many bytes stand before the first separator: all, where there is none
abbrev pub place : Bytes → Bytes → ℕ
place sep t = length (split sep t).first
