-- The four characters behind `\u` pass in 231,352 ways: the first two as a pair, a digit or the plus and then a digit, but no D followed by 8
-- to F, which begins a surrogate, in 478 ways, and each of the others as one of 22 digits. Assumes nothing.
use Rattle.std.specs.Prelude.{if◌then◌else◌}
use Prim.Native.Nat.{ℕ, ◌+◌, ◌*◌, ◌<◌, ◌≤◌}
use mathlib.Core.Path.{◌≡◌, refl, sym, ◌∙◌}
use mathlib.Core.Bool.{Bool, true, false, not, ◌&&◌, and-true, and-false}
use mathlib.Core.Logic.{⊎_elim}
use mathlib.Core.List.{[], ◌∷◌, ◌++◌}
use mathlib.Core.Option.{Option, none, some}
use native.Mathlib.Omega.{arith}
use lib.Dec.{leb, ltb, eqb}
use lib.ListN.{length, take, drop}
use borrow.Author.Tests.{eqb-true, eqb-false, leb-true, leb-false, ltb-true, ltb-false, le-leb, lt-leb, lt-ltb}
use Rattle.format.specs.Bytes.{Bytes, ascii, all, total}
use Rattle.format.specs.Characters.{is_scalar, encoding}
use Rattle.format.specs.Escaping.{digit_value, shifted, first_digit, four_digits, Escape, scalar_escape, long_escape, escape_at, unescape_from}
use Rattle.format.specs.declared.Manner.TheVariants.{Source}
use Rattle.format.proofs.Lists.{bcase, and_left, clash}
use Rattle.format.proofs.Characters.Shapes.{scalar_low, scalar_high}
use Rattle.format.proofs.Escaping.Unescape.{Below, digit_small, first_small, four_ascii_lem}
use Rattle.counting.specs.Strings.{numbers_below, prefixed, strings, is_string, how_many, string_count}
use Rattle.counting.specs.Counts.{is_answered, ways}
use Rattle.counting.proofs.Strings.{count_zero, count_same, count_both}
use Rattle.counting.proofs.FirstBytes.{is_some, unescapes, answered_accepts, behind_u, of_byte, four, u_first, u_next}

-- What of the values decides.
abbrev pair_of : Option ℕ → Option ℕ → Bool
pair_of none o = false
pair_of (some x) none = false
pair_of (some x) (some y) = not (eqb x 13 && leb 8 y)

surrogate : (n : ℕ) → 0xD800 ≤ n → n ≤ 0xDFFF → is_scalar n ≡ false
unfolding is_scalar
surrogate n h k = rw (lt-leb n 0xD7FF (omega arith), le-leb 0 n (omega arith), lt-leb 0xE000 n (omega arith)) refl

-- the first two digits tell whether the number is a surrogate
scalar_pair : (x y z w : ℕ) → x < 16 → y < 16 → z < 16 → w < 16 → is_scalar (((x * 16 + y) * 16 + z) * 16 + w) ≡ not (eqb x 13 && leb 8 y)
scalar_pair x y z w p q r s = by (((x * 16 + y) * 16 + z) * 16 + w) (eqb x 13) (leb 8 y) refl refl refl
  where
    by : (n : ℕ) (e l : Bool) → n ≡ ((x * 16 + y) * 16 + z) * 16 + w → eqb x 13 ≡ e → leb 8 y ≡ l → is_scalar n ≡ not (e && l)
    by n true true f g h = surrogate n (omega (arith, eqb-true x 13 g, leb-true 8 y h)) (omega (arith, eqb-true x 13 g, leb-true 8 y h))
    by n true false f g h = scalar_low n (omega (arith, eqb-true x 13 g, leb-false 8 y h))
    by n false l f g h =
        ⊎_elim (λ u. scalar_low n (omega (arith, ltb-true x 13 u)))
        (λ u. scalar_high n (omega (arith, ltb-false x 13 u, eqb-false x 13 g)) (omega arith)) (bcase (ltb x 13))

by_values : (x y z w : Option ℕ) → Below 16 x → Below 16 y → Below 16 z → Below 16 w
    → is_some (scalar_escape (shifted (shifted (shifted x y) z) w)) ≡ (pair_of x y && (is_some z && is_some w))
unfolding scalar_escape
by_values none y z w p q r s = refl
by_values (some x) none z w p q r s = refl
by_values (some x) (some y) none w p q r s = sym (and-false (pair_of (some x) (some y)))
by_values (some x) (some y) (some z) none p q r s = sym (and-false (pair_of (some x) (some y)))
by_values (some x) (some y) (some z) (some w) p q r s =
    if_some (is_scalar (((x * 16 + y) * 16 + z) * 16 + w)) (record { stands = encoding (((x * 16 + y) * 16 + z) * 16 + w); takes = 5 })
    ∙ scalar_pair x y z w (p x refl) (q y refl) (r z refl) (s w refl)
    ∙ sym (and-true (pair_of (some x) (some y)))
  where
    if_some : (b : Bool) (e : Escape) → is_some (if b then some e else none) ≡ b
    if_some true e = refl
    if_some false e = refl

-- The same as tests of bytes.
is_hex : ℕ → Bool
is_hex c = is_some (digit_value c)

is_pair : Bytes → Bool
is_pair [] = false
is_pair (a ∷ []) = false
is_pair (a ∷ b ∷ s) = pair_of (first_digit Source a) (digit_value b)

abbrev two_hex : Bytes → Bool
two_hex s = of_byte is_hex (take 1 s) && of_byte is_hex (drop 1 s)

four_parts : (s : Bytes) → length s ≡ 4 → four s ≡ (is_pair (take 2 s) && two_hex (drop 2 s))
unfolding long_escape four_digits is_pair is_hex
four_parts [] e = absurd (omega arith)
four_parts (a ∷ []) e = absurd (omega arith)
four_parts (a ∷ b ∷ []) e = absurd (omega arith)
four_parts (a ∷ b ∷ c ∷ []) e = absurd (omega arith)
four_parts (a ∷ b ∷ c ∷ d ∷ s) e =
    by_values (first_digit Source a) (digit_value b) (digit_value c) (digit_value d) (first_small Source a) (digit_small b) (digit_small c) (digit_small d)

hex_ways : string_count (of_byte is_hex) 1 ≡ 22
unfolding how_many strings prefixed numbers_below total is_hex digit_value
hex_ways = refl

pair_ways : string_count is_pair 2 ≡ 478
unfolding how_many strings prefixed numbers_below total is_pair first_digit digit_value
pair_ways = refl

pub four_ways : string_count four 4 ≡ 231352
four_ways =
    count_same 4 four (λ s. is_pair (take 2 s) && two_hex (drop 2 s)) four_parts
    ∙ count_both 2 2 4 refl is_pair two_hex
    ∙ rw (pair_ways, count_both 1 1 2 refl (of_byte is_hex) (of_byte is_hex), hex_ways) refl

-- Behind `\u`.
behind_u_lem : (s : Bytes) → is_answered 0 (ascii "\\u" ++ s) ≡ behind_u s
unfolding unescape_from escape_at
behind_u_lem s = answered_accepts (ascii "\\u" ++ s)

pub ways_are : ways ≡ 231352
unfolding ways unescape_from
ways_are =
    count_same 4 (λ s. is_answered 0 (ascii "\\u" ++ s)) behind_u (λ s e. behind_u_lem s)
    ∙ u_next 0
    ∙ rw (four_ways, count_zero unescapes) refl

-- what passes begins with four ASCII bytes
pub four_string : (s : Bytes) → is_answered 0 (ascii "\\u" ++ s) ≡ true → is_string 4 (take 4 s) ≡ true
unfolding scalar_escape is_string all long_escape
four_string s h = among s (and_left (four (take 4 s)) (unescapes (drop 4 s)) (sym (behind_u_lem s ∙ u_first s) ∙ h))
  where
    of : (a b c d : ℕ) (o : Option ℕ) → four_digits Source a b c d ≡ o → is_some (scalar_escape o) ≡ true → is_string 4 (a ∷ b ∷ c ∷ d ∷ []) ≡ true
    of a b c d none f t = clash t refl
    of a b c d (some n) f t =
        let k = four_ascii_lem Source a b c d n f in
        rw (lt-ltb a 128 k.0, lt-ltb b 128 k.1, lt-ltb c 128 k.2, lt-ltb d 128 k.3) refl

    among : (s : Bytes) → four (take 4 s) ≡ true → is_string 4 (take 4 s) ≡ true
    among [] t = clash t refl
    among (a ∷ []) t = clash t refl
    among (a ∷ b ∷ []) t = clash t refl
    among (a ∷ b ∷ c ∷ []) t = clash t refl
    among (a ∷ b ∷ c ∷ d ∷ s) t = of a b c d (four_digits Source a b c d) refl t
