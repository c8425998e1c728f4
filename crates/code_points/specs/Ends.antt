-- How many bytes of a text's first and last character are white space that is no control character (document 02, T-03), and the bytes
-- that such a character begins with. proofs/LostEnds.antt has the laws for those who cut it off. Assumes nothing.
use Rattle.std.specs.Prelude.{ℕ, Bool, ◌||◌, List, [], ◌∷◌, eqb, length, if◌then◌else◌}
use Rattle.format.specs.Bytes.{Bytes}
use Rattle.format.specs.Characters.{◌to◌, within, last_of, is_lost}

-- U+0020; U+00A0; the others, from U+1680 to U+3000
unfoldable pub lost_lead : ℕ → Bool
lost_lead b = eqb b 0x20 || (eqb b 0xC2 || within b (0xE1 to 0xE3))

-- all bytes of such a character, none of any other
unfoldable pub lost_size : Bytes → ℕ
lost_size g = if is_lost g then length g else 0

-- of the first of the characters
unfoldable pub lost_front : List Bytes → ℕ
lost_front [] = 0
lost_front (g ∷ gs) = lost_size g

-- of the last of the characters
unfoldable pub lost_back : List Bytes → ℕ
lost_back [] = 0
lost_back (g ∷ gs) = lost_size (last_of g gs)
