-- Document 01, "Escaping" (RFC 3862 section 2.3), and document 02: how the ends of a header value are written (T-03), and escapes read in two
-- manners, the source's and the RFC's (T-01). The source is stricter: \' is refused. And laxer: \u takes a plus sign and three digits.
-- Assumes nothing.
use Rattle.std.specs.Prelude.{ℕ, zero, suc, ◌+◌, ◌-◌, ◌*◌, ◌/◌, ◌%◌, ◌&&◌, List, [], ◌∷◌, ◌++◌, leb, ltb, eqb, if◌then◌else◌}
use Rattle.std.proofs.Math.Option.{Option, none, some}
use Rattle.format.specs.Bytes.{Bytes, texts, backslash, quote, apostrophe, plus}
use Rattle.format.specs.Characters.{chars, is_control, code_point, is_scalar, encoding, is_lost}
use Rattle.format.specs.declared.Manner.{Manner}
use Rattle.format.specs.declared.Manner.TheVariants.{Source, Rfc}

-- a lower-case hexadecimal digit: 0 to 9, a to f
unfoldable pub digit : ℕ → ℕ
digit n = if ltb n 10 then 48 + n else 87 + n

-- `\u` and four lower-case hexadecimal digits
unfoldable pub unicode_escape : ℕ → Bytes
unicode_escape n = backslash ∷ 117 ∷ digit (n / 4096 % 16) ∷ digit (n / 256 % 16) ∷ digit (n / 16 % 16) ∷ digit (n % 16) ∷ []

-- what follows the backslash for a character that has a short form: \\ \" \b \t \n \r
unfoldable pub short_form : ℕ → Option ℕ
short_form n =
    if eqb n backslash then some backslash
    else if eqb n quote then some quote
    else if eqb n 8 then some 98
    else if eqb n 9 then some 116
    else if eqb n 10 then some 110
    else if eqb n 13 then some 114 else none

-- a character with no short form: any other Cc as `\u`, all others as they are
abbrev pub long_form : Bytes → Bytes
long_form g = if is_control g then unicode_escape (code_point g) else g

-- the short form where there is one, else the long form
abbrev pub short_or : Option ℕ → Bytes → Bytes
short_or none g = long_form g
short_or (some c) g = backslash ∷ c ∷ []

-- one character as it is written everywhere but at an end of a header value
unfoldable pub escape_char : Bytes → Bytes
escape_char [] = []
escape_char (b ∷ []) = short_or (short_form b) (b ∷ [])
escape_char (b ∷ c ∷ t) = long_form (b ∷ c ∷ t)

-- a text with every character written so
unfoldable pub escape : Bytes → Bytes
escape v = texts escape_char (chars v)

-- a character at an end of a header value: white space that is no control character as `\u`, any other as everywhere
unfoldable pub end_form : Bytes → Bytes
end_form g = if is_lost g then unicode_escape (code_point g) else escape_char g

-- characters of which the last is the value's last
unfoldable pub last_forms : List Bytes → Bytes
last_forms [] = []
last_forms (g ∷ []) = end_form g
last_forms (g ∷ h ∷ gs) = escape_char g ++ last_forms (h ∷ gs)

-- all characters of a value: the first at an end, and the last; where there is but one, it stands once
unfoldable pub value_forms : List Bytes → Bytes
value_forms [] = []
value_forms (g ∷ gs) = end_form g ++ last_forms gs

-- a header value as it is written in its line
unfoldable pub value_text : Bytes → Bytes
value_text v = value_forms (chars v)

-- the value of a hexadecimal digit in either case
unfoldable pub digit_value : ℕ → Option ℕ
digit_value c =
    if leb 48 c && leb c 57 then some (c - 48)
    else if leb 97 c && leb c 102 then some (c - 87)
    else if leb 65 c && leb c 70 then some (c - 55) else none

-- one more digit behind a number read so far
abbrev pub shifted : Option ℕ → Option ℕ → Option ℕ
shifted none d = none
shifted (some n) none = none
shifted (some n) (some d) = some (n * 16 + d)

-- the first of four digits: the source takes a plus for 0
unfoldable pub first_digit : Manner → ℕ → Option ℕ
first_digit Source c = if eqb c plus then some 0 else digit_value c
first_digit Rfc c = digit_value c

-- the number after `\u`
unfoldable pub four_digits : Manner → ℕ → ℕ → ℕ → ℕ → Option ℕ
four_digits r a b c d = shifted (shifted (shifted (first_digit r a) (digit_value b)) (digit_value c)) (digit_value d)

-- What an escape stands for, and how many bytes behind the backslash it takes.
pub record Escape : Type 0 where
  pub stands : Bytes
  pub takes : ℕ

-- a surrogate, or no number, is no escape
unfoldable pub scalar_escape : Option ℕ → Option Escape
scalar_escape none = none
scalar_escape (some n) = if is_scalar n then some (record { stands = encoding n; takes = 5 }) else none

-- `\u`: the four bytes behind it
unfoldable pub long_escape : Manner → Bytes → Option Escape
long_escape r [] = none
long_escape r (a ∷ []) = none
long_escape r (a ∷ b ∷ []) = none
long_escape r (a ∷ b ∷ c ∷ []) = none
long_escape r (a ∷ b ∷ c ∷ d ∷ t) = scalar_escape (four_digits r a b c d)

abbrev pub one_byte : ℕ → Option Escape
one_byte n = some (record { stands = n ∷ []; takes = 1 })

-- \' is an escape of the RFC alone
unfoldable pub apostrophe_escape : Manner → ℕ → Option Escape
apostrophe_escape Source c = none
apostrophe_escape Rfc c = if eqb c apostrophe then one_byte apostrophe else none

-- the short forms read
unfoldable pub short_escape : Manner → ℕ → Option Escape
short_escape r c =
    if eqb c backslash then one_byte backslash
    else if eqb c quote then one_byte quote
    else if eqb c 98 then one_byte 8
    else if eqb c 116 then one_byte 9
    else if eqb c 110 then one_byte 10
    else if eqb c 114 then one_byte 13 else apostrophe_escape r c

-- the escape that the bytes behind a backslash begin with
unfoldable pub escape_at : Manner → Bytes → Option Escape
escape_at r [] = none
escape_at r (c ∷ s) = if eqb c 117 then long_escape r s else short_escape r c

-- how many bytes are passed over
abbrev pub takes_of : Option Escape → ℕ
takes_of none = 0
takes_of (some e) = e.takes

-- a text in front of what the rest reads as
abbrev pub in_front : Bytes → Option Bytes → Option Bytes
in_front s none = none
in_front s (some t) = some (s ++ t)

abbrev pub escaped : Option Escape → Option Bytes → Option Bytes
escaped none t = none
escaped (some e) t = in_front e.stands t

-- Read; none where something else stands after a backslash. (k bytes of an escape just read are still to be passed over:
-- a device of the recursion.)
unfoldable pub unescape_from : Manner → ℕ → Bytes → Option Bytes
unescape_from r k [] = some []
unescape_from r zero (b ∷ s) =
    if eqb b backslash then escaped (escape_at r s) (unescape_from r (takes_of (escape_at r s)) s) else in_front (b ∷ []) (unescape_from r zero s)
unescape_from r (suc k) (b ∷ s) = unescape_from r k s

-- what a text reads as in a manner
abbrev pub unescape_by : Manner → Bytes → Option Bytes
unescape_by r s = unescape_from r 0 s

-- and in the source's
abbrev pub unescape : Bytes → Option Bytes
unescape s = unescape_by Source s
