-- A header value as it is written is three parts (document 02, T-03): a first character that is written as `\u`, or nothing; what is
-- between, escaped as any text; and a last character that is written as `\u`, or nothing. A test of the
-- first and the last byte tells of most values that both ends are nothing. Assumes nothing.
use Rattle.std.specs.Prelude.{ℕ, ◌-◌, ◌≤◌, ◌≡◌, Bool, ◌&&◌, ◌||◌, not, [], ◌∷◌, ◌++◌, ltb, eqb, length, take, drop, get_or}
use Rattle.format.specs.Bytes.{Bytes}
use Rattle.format.specs.Characters.{code_point}
use Rattle.format.specs.Escaping.{unicode_escape, escape, value_text}

-- an end that is cut off: no bytes stand for none
unfoldable pub lost_text : Bytes → Bytes
lost_text [] = []
lost_text (b ∷ t) = unicode_escape (code_point (b ∷ t))

-- v is written in three parts: its first `front` bytes by lost_text, those from there to the place `end` escaped, and the rest by lost_text.
pub record Cuts (v : Bytes) (front end : ℕ) : Type 0 where
  pub ordered : front ≤ end
  pub inside : end ≤ length v
  pub parts : value_text v ≡ lost_text (take front v) ++ (escape (take (end - front) (drop front v)) ++ lost_text (drop end v))

-- an ASCII character other than the space: at an end it is written as everywhere
unfoldable pub ascii_end : ℕ → Bool
ascii_end b = not (eqb b 0x20) && ltb b 0x80

-- such are the first byte and the last, where there are any
unfoldable pub ascii_ends : Bytes → Bool
ascii_ends v = eqb (length v) 0 || (ascii_end (get_or v 0 0) && ascii_end (get_or v (length v - 1) 0))
