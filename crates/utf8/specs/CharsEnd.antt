-- The parts of a text that are gone over at a time, and how far going over characters, one by one, leads. Assumes nothing.
use Rattle.std.specs.Prelude.{ℕ, ◌+◌, min, ◌&&◌, List, [], ◌∷◌, ltb, length, drop, if◌then◌else◌}
use Rattle.format.specs.Bytes.{Bytes}
use Rattle.format.specs.Characters.{well_formed, chars}

-- the end of the part from a place on: 64 bytes behind it, or the text's end where it is nearer
abbrev pub part_end : Bytes → ℕ → ℕ
part_end s at = min (at + 64) (length s)

-- Behind the first of these characters and subparts, the first of which stands at a place: up to one that begins at stop or behind
-- it, or is ill-formed.
unfoldable pub gone_over : ℕ → ℕ → List Bytes → ℕ
gone_over stop at [] = at
gone_over stop at (g ∷ gs) = if ltb at stop && well_formed g then gone_over stop (at + length g) gs else at

-- the same for the characters of s from a place on
unfoldable pub chars_end : Bytes → ℕ → ℕ → ℕ
chars_end s at stop = gone_over stop at (chars (drop at s))
