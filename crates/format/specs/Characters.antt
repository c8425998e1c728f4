-- Document 01, "Characters": UTF-8 by Unicode Table 3-7, white space, control characters, trimming, and the replacement
-- of ill-formed subparts by U+FFFD (Unicode chapter 3). A character is a group of bytes. Assumes nothing.
use Rattle.std.specs.Prelude.{ℕ, zero, suc, ◌+◌, ◌*◌, ◌/◌, ◌%◌, Bool, true, false, not, ◌&&◌, ◌||◌, List, [], ◌∷◌, leb, ltb, eqb, length, take, drop, if◌then◌else◌}
use Rattle.std.proofs.Math.Option.{Option, none, some}
use Rattle.format.specs.Bytes.{Bytes, all, any, texts}

-- The numbers from first to last.
pub record Range : Type 0 where
  pub first : ℕ
  pub last : ℕ

infix 60 ◌to◌
abbrev pub ◌to◌ : ℕ → ℕ → Range
a to b = record { first = a; last = b }

abbrev pub within : ℕ → Range → Bool
within n r = leb r.first n && leb n r.last

-- A row of Table 3-7: a lead range with its trailing ranges.
pub record Row : Type 0 where
  pub lead : Range
  pub trail : List Range

abbrev pub row : Range → List Range → Row
row l t = record { lead = l; trail = t }

-- Table 3-7, well-formed UTF-8 byte sequences
abbrev pub table_3_7 : List Row
table_3_7 =
    row (0x00 to 0x7F) []
    ∷ row (0xC2 to 0xDF) ((0x80 to 0xBF) ∷ [])
    ∷ row (0xE0 to 0xE0) ((0xA0 to 0xBF) ∷ (0x80 to 0xBF) ∷ [])
    ∷ row (0xE1 to 0xEC) ((0x80 to 0xBF) ∷ (0x80 to 0xBF) ∷ [])
    ∷ row (0xED to 0xED) ((0x80 to 0x9F) ∷ (0x80 to 0xBF) ∷ [])
    ∷ row (0xEE to 0xEF) ((0x80 to 0xBF) ∷ (0x80 to 0xBF) ∷ [])
    ∷ row (0xF0 to 0xF0) ((0x90 to 0xBF) ∷ (0x80 to 0xBF) ∷ (0x80 to 0xBF) ∷ [])
    ∷ row (0xF1 to 0xF3) ((0x80 to 0xBF) ∷ (0x80 to 0xBF) ∷ (0x80 to 0xBF) ∷ [])
    ∷ row (0xF4 to 0xF4) ((0x80 to 0x8F) ∷ (0x80 to 0xBF) ∷ (0x80 to 0xBF) ∷ [])
    ∷ []

-- the trailing ranges of the row whose lead range holds b
unfoldable pub trail_in : List Row → ℕ → Option (List Range)
trail_in [] b = none
trail_in (r ∷ rs) b = if within b r.lead then some r.trail else trail_in rs b

abbrev pub trail_of : ℕ → Option (List Range)
trail_of b = trail_in table_3_7 b

-- the bytes t are one for each range, each within its range
unfoldable pub fits : List Range → Bytes → Bool
fits [] [] = true
fits [] (b ∷ t) = false
fits (r ∷ rs) [] = false
fits (r ∷ rs) (b ∷ t) = within b r && fits rs t

-- the same where a row was found
abbrev pub fits_some : Option (List Range) → Bytes → Bool
fits_some none t = false
fits_some (some rs) t = fits rs t

-- one well-formed character: a lead byte of a row and trailing bytes within that row's trailing ranges
unfoldable pub well_formed : Bytes → Bool
well_formed [] = false
well_formed (b ∷ t) = fits_some (trail_of b) t

-- how many bytes of t fit the ranges, one after another
unfoldable pub matched : List Range → Bytes → ℕ
matched [] t = 0
matched (r ∷ rs) [] = 0
matched (r ∷ rs) (b ∷ t) = if within b r then suc (matched rs t) else 0

-- the same where a row was found, else none
abbrev pub matched_some : Option (List Range) → Bytes → ℕ
matched_some none t = 0
matched_some (some rs) t = matched rs t

-- how many bytes of t stand with a byte b before them: they complete a character or, where none can be completed,
-- the longest beginning of one (a maximal subpart: none where b begins no character)
abbrev pub trailing : ℕ → Bytes → ℕ
trailing b t = matched_some (trail_of b) t

-- Any bytes cut into characters and maximal ill-formed subparts. (The first number only bounds the recursion.)
unfoldable pub chars_from : ℕ → Bytes → List Bytes
chars_from zero s = []
chars_from (suc k) [] = []
chars_from (suc k) (b ∷ t) = (b ∷ take (trailing b t) t) ∷ chars_from k (drop (trailing b t) t)

unfoldable pub chars : Bytes → List Bytes
chars s = chars_from (length s) s

-- the text is UTF-8
unfoldable pub is_utf8 : Bytes → Bool
is_utf8 s = all well_formed (chars s)

-- the code point of a well-formed character (Table 3-6)
unfoldable pub code_point : Bytes → ℕ
code_point [] = 0
code_point (a ∷ []) = a
code_point (a ∷ b ∷ []) = (a % 32) * 64 + b % 64
code_point (a ∷ b ∷ c ∷ []) = (a % 16) * 4096 + ((b % 64) * 64 + c % 64)
code_point (a ∷ b ∷ c ∷ d ∷ []) = (a % 8) * 262144 + ((b % 64) * 4096 + ((c % 64) * 64 + d % 64))
code_point (a ∷ b ∷ c ∷ d ∷ e ∷ t) = 0

-- a scalar value: U+0000 to U+D7FF, U+E000 to U+10FFFF
unfoldable pub is_scalar : ℕ → Bool
is_scalar n = within n (0 to 0xD7FF) || within n (0xE000 to 0x10FFFF)

-- the encoding of a scalar value (Table 3-6)
unfoldable pub encoding : ℕ → Bytes
encoding n =
    if ltb n 0x80 then n ∷ []
    else if ltb n 0x800 then (0xC0 + n / 64) ∷ (0x80 + n % 64) ∷ []
    else if ltb n 0x10000 then (0xE0 + n / 4096) ∷ (0x80 + n / 64 % 64) ∷ (0x80 + n % 64) ∷ []
    else (0xF0 + n / 262144) ∷ (0x80 + n / 4096 % 64) ∷ (0x80 + n / 64 % 64) ∷ (0x80 + n % 64) ∷ []

-- The 25 code points of Unicode White_Space
abbrev pub white_space : List ℕ
white_space =
    0x0009 ∷ 0x000A ∷ 0x000B ∷ 0x000C ∷ 0x000D ∷ 0x0020 ∷ 0x0085 ∷ 0x00A0 ∷ 0x1680 ∷ 0x2000 ∷ 0x2001 ∷ 0x2002 ∷ 0x2003 ∷ 0x2004 ∷ 0x2005
    ∷ 0x2006 ∷ 0x2007 ∷ 0x2008 ∷ 0x2009 ∷ 0x200A ∷ 0x2028 ∷ 0x2029 ∷ 0x202F ∷ 0x205F ∷ 0x3000 ∷ []

-- the same, as document 01 lists them
abbrev pub white_ranges : List Range
white_ranges =
    (0x0009 to 0x000D)
    ∷ (0x0020 to 0x0020)
    ∷ (0x0085 to 0x0085)
    ∷ (0x00A0 to 0x00A0)
    ∷ (0x1680 to 0x1680)
    ∷ (0x2000 to 0x200A)
    ∷ (0x2028 to 0x2028)
    ∷ (0x2029 to 0x2029)
    ∷ (0x202F to 0x202F)
    ∷ (0x205F to 0x205F)
    ∷ (0x3000 to 0x3000)
    ∷ []

-- a white-space character
unfoldable pub is_white : Bytes → Bool
is_white g = well_formed g && any (eqb (code_point g)) white_space

-- Control (Cc): U+0000 to U+001F and U+007F to U+009F
unfoldable pub is_control_code : ℕ → Bool
is_control_code n = ltb n 0x20 || within n (0x7F to 0x9F)

-- a control character
unfoldable pub is_control : Bytes → Bool
is_control g = well_formed g && is_control_code (code_point g)

-- ASCII control: U+0000 to U+001F and U+007F, each a byte of its own
unfoldable pub is_ascii_control : ℕ → Bool
is_ascii_control b = ltb b 0x20 || eqb b 0x7F

-- the characters without those at the front that pass the test
unfoldable pub drop_front : (Bytes → Bool) → List Bytes → List Bytes
drop_front p [] = []
drop_front p (g ∷ gs) = if p g then drop_front p gs else g ∷ gs

-- g in front of what is kept behind it
abbrev pub keep_back : (Bytes → Bool) → Bytes → List Bytes → List Bytes
keep_back p g [] = if p g then [] else g ∷ []
keep_back p g (h ∷ hs) = g ∷ h ∷ hs

-- the characters without those at the back that pass the test
unfoldable pub drop_back : (Bytes → Bool) → List Bytes → List Bytes
drop_back p [] = []
drop_back p (g ∷ gs) = keep_back p g (drop_back p gs)

-- the characters as one text again
abbrev pub flat : List Bytes → Bytes
flat gs = texts (λ g. g) gs

-- the text without the characters at either end that pass the test
unfoldable pub trim_by : (Bytes → Bool) → Bytes → Bytes
trim_by p s = flat (drop_back p (drop_front p (chars s)))

-- Trimming strips white space from both ends.
abbrev pub trim : Bytes → Bytes
trim s = trim_by is_white s

-- the last of the characters, g being the first
unfoldable pub last_of : Bytes → List Bytes → Bytes
last_of g [] = g
last_of g (h ∷ hs) = last_of h hs

-- neither the first nor the last of the characters passes the test
unfoldable pub clear_of : (Bytes → Bool) → List Bytes → Bool
clear_of p [] = true
clear_of p (g ∷ gs) = not (p g) && not (p (last_of g gs))

-- neither the first nor the last character passes the test; an empty text has neither
unfoldable pub clear_ends : (Bytes → Bool) → Bytes → Bool
clear_ends p s = clear_of p (chars s)

-- U+FFFD
abbrev pub replacement : Bytes
replacement = 0xEF ∷ 0xBF ∷ 0xBD ∷ []

abbrev pub or_replaced : Bytes → Bytes
or_replaced g = if well_formed g then g else replacement

-- each maximal ill-formed subpart replaced by U+FFFD
unfoldable pub replaced : Bytes → Bytes
replaced s = texts or_replaced (chars s)

-- white space that is no control character: what trimming would take from the ends of a value written by `escape`
unfoldable pub is_lost : Bytes → Bool
is_lost g = is_white g && not (is_control g)
