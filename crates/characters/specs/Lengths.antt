-- Lengths of what stands at the front of a text, in bytes. Assumes nothing.
use Rattle.std.specs.Prelude.{ℕ, suc, ◌+◌, ◌≤◌, ◌≡◌, List, [], ◌∷◌, length, take, drop, if◌then◌else◌}
use Rattle.format.specs.Bytes.{Bytes}
use Rattle.format.specs.Characters.{trailing, well_formed, chars}

-- the first character or maximal ill-formed subpart of a text; 0 where the text is empty
unfoldable pub subpart_len : Bytes → ℕ
subpart_len [] = 0
subpart_len (b ∷ t) = suc (trailing b t)

-- the well-formed character that a text begins with; 0 where it begins with none
unfoldable pub char_len : Bytes → ℕ
char_len s = if well_formed (take (subpart_len s) s) then subpart_len s else 0

unfoldable pub whole_len : List Bytes → ℕ
whole_len [] = 0
whole_len (g ∷ gs) = if well_formed g then length g + whole_len gs else 0

-- the place where UTF-8 ends in a text, going from the place i on: that of the first ill-formed subpart, or the text's end
unfoldable pub utf8_end : Bytes → ℕ → ℕ
utf8_end s i = i + whole_len (chars (drop i s))

-- Going on from the place at to the place r of s leaves where UTF-8 ends: all between them is UTF-8.
pub record Passed (s : Bytes) (at r : ℕ) : Type 0 where
  pub onward : at ≤ r
  pub inside : r ≤ length s
  pub keeps : utf8_end s at ≡ utf8_end s r
