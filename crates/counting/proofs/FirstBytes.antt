-- The strings that the first reading's unescaping accepts, by their first bytes: a byte other than a backslash leaves the rest, behind a
-- backslash one of six letters does, and `u` asks for four characters; all else is refused. Assumes nothing.
use Rattle.std.specs.Prelude.{if◌then◌else◌}
use Prim.Native.Nat.{ℕ, zero, suc, ◌+◌, ◌*◌, ◌<◌}
use mathlib.Core.Path.{◌≡◌, refl, ap, ◌∙◌}
use mathlib.Core.Bool.{Bool, true, false, not, ◌&&◌}
use mathlib.Core.List.{[], ◌∷◌}
use mathlib.Core.Option.{Option, none, some}
use native.Mathlib.Omega.{arith}
use lib.Dec.{eqb}
use lib.ListN.{length, take, drop}
use borrow.Author.Tests.{eqb-true}
use Rattle.format.specs.Bytes.{Bytes, total, backslash, quote}
use Rattle.format.specs.Characters.{is_scalar, encoding}
use Rattle.format.specs.Escaping.{four_digits, Escape, scalar_escape, long_escape, one_byte, apostrophe_escape, short_escape, escape_at, takes_of, in_front, escaped, unescape_from, unescape}
use Rattle.format.specs.Refusals.{numbers, table}
use Rattle.format.specs.declared.Manner.TheVariants.{Source}
use Rattle.format.proofs.Escaping.Unescape.{unescape_skip}
use Rattle.counting.specs.Strings.{numbers_below, prefixed, strings, one_if, how_many, string_count}
use Rattle.counting.specs.Counts.{or_bad_escape, unescaping, is_answered}
use Rattle.counting.proofs.Strings.{count_same, count_none, count_either, count_both}

-- there is something
abbrev pub is_some : {A : Type 0} → Option A → Bool
is_some none = false
is_some (some a) = true

-- a string unescapes
abbrev pub unescapes : Bytes → Bool
unescapes s = is_some (unescape s)

pub answered_accepts : (s : Bytes) → is_answered 0 s ≡ unescapes s
unfolding is_answered unescaping numbers table
answered_accepts s = by (unescape s)
  where
    by : (o : Option Bytes) → eqb (numbers (or_bad_escape o)).number 0 ≡ is_some o
    by none = refl
    by (some v) = refl

pub answered_refuses : (s : Bytes) → is_answered 5 s ≡ not (unescapes s)
unfolding is_answered unescaping numbers table
answered_refuses s = by (unescape s)
  where
    by : (o : Option Bytes) → eqb (numbers (or_bad_escape o)).number 5 ≡ not (is_some o)
    by none = refl
    by (some v) = refl

-- what was read in front changes nothing
front_some : (s : Bytes) (o : Option Bytes) → is_some (in_front s o) ≡ is_some o
front_some s none = refl
front_some s (some t) = refl

-- what stands behind a backslash unescapes, and what stands behind `\u`
abbrev pub behind_backslash : Bytes → Bool
behind_backslash s = is_some (escaped (escape_at Source s) (unescape_from Source (takes_of (escape_at Source s)) s))

abbrev pub behind_u : Bytes → Bool
behind_u s = is_some (escaped (long_escape Source s) (unescape_from Source (takes_of (long_escape Source s)) (117 ∷ s)))

-- a test of one byte
abbrev pub of_byte : (ℕ → Bool) → Bytes → Bool
of_byte t [] = false
of_byte t (b ∷ s) = t b

is_backslash : ℕ → Bool
is_backslash b = eqb b backslash

is_u : ℕ → Bool
is_u b = eqb b 117

is_short : ℕ → Bool
is_short b = is_some (short_escape Source b)

-- The first byte.
unescapes_first : (s : Bytes)
    → one_if (unescapes s) ≡ one_if (of_byte is_backslash (take 1 s) && behind_backslash (drop 1 s)) + one_if (not (of_byte is_backslash (take 1 s)) && unescapes (drop 1 s))
unfolding unescape_from is_backslash
unescapes_first [] = refl
unescapes_first (b ∷ s) = by (eqb b backslash)
  where
    by : (x : Bool)
        → one_if (is_some (if x then escaped (escape_at Source s) (unescape_from Source (takes_of (escape_at Source s)) s) else in_front (b ∷ []) (unescape_from Source zero s)))
        ≡ one_if (x && behind_backslash s) + one_if (not x && unescapes s)
    by true = omega arith
    by false = omega (arith, ap one_if (front_some (b ∷ []) (unescape_from Source zero s)))

-- The byte behind a backslash.
short_unescapes : (c : ℕ) (s : Bytes)
    → is_some (escaped (short_escape Source c) (unescape_from Source (takes_of (short_escape Source c)) (c ∷ s))) ≡ (is_short c && unescapes s)
unfolding short_escape apostrophe_escape is_short unescape_from
short_unescapes c s = by (eqb c backslash) (eqb c quote) (eqb c 98) (eqb c 116) (eqb c 110) (eqb c 114)
  where
    of : Bool → Bool → Bool → Bool → Bool → Bool → Option Escape
    of a b d e f g =
        if a then one_byte backslash
        else if b then one_byte quote
        else if d then one_byte 8
        else if e then one_byte 9
        else if f then one_byte 10
        else if g then one_byte 13 else none

    by : (a b d e f g : Bool)
        → is_some (escaped (of a b d e f g) (unescape_from Source (takes_of (of a b d e f g)) (c ∷ s))) ≡ (is_some (of a b d e f g) && unescapes s)
    by true b d e f g = front_some (backslash ∷ []) (unescape s)
    by false true d e f g = front_some (quote ∷ []) (unescape s)
    by false false true e f g = front_some (8 ∷ []) (unescape s)
    by false false false true f g = front_some (9 ∷ []) (unescape s)
    by false false false false true g = front_some (10 ∷ []) (unescape s)
    by false false false false false true = front_some (13 ∷ []) (unescape s)
    by false false false false false false = refl

short_u : is_short 117 ≡ false
unfolding is_short short_escape apostrophe_escape
short_u = refl

behind_first : (s : Bytes) → one_if (behind_backslash s) ≡ one_if (of_byte is_u (take 1 s) && behind_u (drop 1 s)) + one_if (of_byte is_short (take 1 s) && unescapes (drop 1 s))
unfolding escape_at is_u
behind_first [] = refl
behind_first (c ∷ s) = by (eqb c 117) refl
  where
    by : (x : Bool) → eqb c 117 ≡ x
        → one_if (is_some (escaped (if x then long_escape Source s else short_escape Source c) (unescape_from Source (takes_of (if x then long_escape Source s else short_escape Source c)) (c ∷ s))))
        ≡ one_if (x && behind_u s) + one_if (is_short c && unescapes s)
    by true e = rw (eqb-true c 117 e, short_u) (omega arith)
    by false e = omega (arith, ap one_if (short_unescapes c s))

-- The four bytes behind `\u`.
abbrev pub four : Bytes → Bool
four s = is_some (long_escape Source s)

pub u_first : (s : Bytes) → behind_u s ≡ (four (take 4 s) && unescapes (drop 4 s))
unfolding long_escape scalar_escape
u_first [] = refl
u_first (a ∷ []) = refl
u_first (a ∷ b ∷ []) = refl
u_first (a ∷ b ∷ c ∷ []) = refl
u_first (a ∷ b ∷ c ∷ d ∷ s) = by (four_digits Source a b c d)
  where
    esc : Bool → ℕ → Option Escape
    esc x n = if x then some (record { stands = encoding n; takes = 5 }) else none

    taken : (x : Bool) (n : ℕ)
        → is_some (escaped (esc x n) (unescape_from Source (takes_of (esc x n)) (117 ∷ a ∷ b ∷ c ∷ d ∷ s))) ≡ (is_some (esc x n) && unescapes s)
    taken true n =
        front_some (encoding n) (unescape_from Source 5 (117 ∷ a ∷ b ∷ c ∷ d ∷ s)) ∙ ap is_some (unescape_skip Source 5 (117 ∷ a ∷ b ∷ c ∷ d ∷ s))
    taken false n = refl

    by : (o : Option ℕ)
        → is_some (escaped (scalar_escape o) (unescape_from Source (takes_of (scalar_escape o)) (117 ∷ a ∷ b ∷ c ∷ d ∷ s))) ≡ (is_some (scalar_escape o) && unescapes s)
    by none = refl
    by (some n) = taken (is_scalar n) n

u_short : (s : Bytes) → length s < 4 → behind_u s ≡ false
unfolding long_escape
u_short [] h = refl
u_short (a ∷ []) h = refl
u_short (a ∷ b ∷ []) h = refl
u_short (a ∷ b ∷ c ∷ []) h = refl
u_short (a ∷ b ∷ c ∷ d ∷ s) h = absurd (omega arith)

-- The counts.

-- one byte of 128 is a backslash, one is `u`, six are short forms
one_byte_lem : (string_count (of_byte is_backslash) 1 ≡ 1) × (string_count (λ s. not (of_byte is_backslash s)) 1 ≡ 127) × (string_count (of_byte is_u) 1 ≡ 1) × (string_count (of_byte is_short) 1 ≡ 6)
unfolding how_many strings prefixed numbers_below total is_backslash is_u is_short short_escape apostrophe_escape
one_byte_lem = (refl, refl, refl, refl)

pub unescapes_next : (n : ℕ) → string_count unescapes (suc n) ≡ 127 * string_count unescapes n + string_count behind_backslash n
unescapes_next n =
    count_either (suc n) (λ s. of_byte is_backslash (take 1 s) && behind_backslash (drop 1 s)) (λ s. not (of_byte is_backslash (take 1 s)) && unescapes (drop 1 s)) unescapes unescapes_first
    ∙ rw (count_both 1 n (suc n) (omega arith) (of_byte is_backslash) behind_backslash, count_both 1 n (suc n) (omega arith) (λ s. not (of_byte is_backslash s)) unescapes, one_byte_lem.0, one_byte_lem.1) (omega arith)

pub behind_next : (n : ℕ) → string_count behind_backslash (suc n) ≡ 6 * string_count unescapes n + string_count behind_u n
behind_next n =
    count_either (suc n) (λ s. of_byte is_u (take 1 s) && behind_u (drop 1 s)) (λ s. of_byte is_short (take 1 s) && unescapes (drop 1 s)) behind_backslash behind_first
    ∙ rw (count_both 1 n (suc n) (omega arith) (of_byte is_u) behind_u, count_both 1 n (suc n) (omega arith) (of_byte is_short) unescapes, one_byte_lem.2, one_byte_lem.3) (omega arith)

pub behind_none : string_count behind_backslash 0 ≡ 0
unfolding escape_at
behind_none = count_none 0 behind_backslash empty
  where
    empty : (s : Bytes) → length s ≡ 0 → behind_backslash s ≡ false
    empty [] e = refl
    empty (c ∷ s) e = absurd (omega arith)

pub u_next : (n : ℕ) → string_count behind_u (4 + n) ≡ string_count four 4 * string_count unescapes n
u_next n = count_same (4 + n) behind_u (λ s. four (take 4 s) && unescapes (drop 4 s)) (λ s e. u_first s) ∙ count_both 4 n (4 + n) refl four unescapes

pub u_none : (n : ℕ) → n < 4 → string_count behind_u n ≡ 0
u_none n h = count_none n behind_u (λ s e. u_short s (omega arith))
