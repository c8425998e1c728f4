-- The claim: the counts of each length by those before it, from the first rows on. Assumes nothing.
use Prim.Native.Nat.{ℕ, suc, ◌+◌, ◌*◌, ◌^◌}
use mathlib.Core.Path.{◌≡◌, refl, ◌∙◌}
use mathlib.Core.Bool.{Bool, true, false, not}
use mathlib.Core.Option.{Option, none, some}
use native.Mathlib.Omega.{arith}
use Rattle.format.specs.Bytes.{Bytes}
use Rattle.format.specs.Characters.{trim}
use Rattle.format.specs.Escaping.{unescape_from, unescape}
use Rattle.format.specs.Refusals.{accepted, ◌>>◌, ◌>>=◌}
use Rattle.format.specs.Validators.{header_value}
use Rattle.format.specs.Reading.{checked_value, read_value}
use Rattle.counting.specs.Strings.{one_if, string_count}
use Rattle.counting.specs.Counts.{or_bad_escape, unescaping, is_answered, accepted_count, refused_count, CountRow, TenRows, Counts}
use Rattle.counting.proofs.Strings.{count_zero, count_same, count_all, strings_length, count_once}
use Rattle.counting.proofs.Listings.{any_listing}
use Rattle.counting.proofs.FirstBytes.{unescapes, answered_accepts, answered_refuses, behind_u, unescapes_next, behind_next, behind_none, u_next, u_none}
use Rattle.counting.proofs.FourDigits.{four_ways, ways_are, four_string}

reading : (s : Bytes) → read_value s ≡ ◌>>=◌ (unescaping (trim s)) (λ v. ◌>>◌ (header_value v) (accepted v))
unfolding read_value checked_value unescaping ◌>>=◌ ◌>>◌
reading s = by (unescape (trim s))
  where
    by : (o : Option Bytes) → checked_value o ≡ ◌>>=◌ (or_bad_escape o) (λ v. ◌>>◌ (header_value v) (accepted v))
    by none = refl
    by (some v) = refl

accepted_is : (n : ℕ) → accepted_count n ≡ string_count unescapes n
unfolding accepted_count
accepted_is n = count_same n (is_answered 0) unescapes (λ s e. answered_accepts s)

either : (n : ℕ) → accepted_count n + refused_count n ≡ 128 ^ n
unfolding accepted_count refused_count
either n = count_all (is_answered 0) (is_answered 5) n (λ s. rw (answered_accepts s, answered_refuses s) (sides (unescapes s)))
  where
    sides : (x : Bool) → one_if x + one_if (not x) ≡ 1
    sides true = refl
    sides false = refl

-- a length by the two before it, and by what passes behind `\u`
next : (n : ℕ) → accepted_count (suc (suc n)) ≡ 127 * accepted_count (suc n) + 6 * accepted_count n + string_count behind_u n
next n = rw (accepted_is (suc (suc n)), accepted_is (suc n), accepted_is n, unescapes_next (suc n), behind_next n) (omega arith)

after_u : (n : ℕ) → string_count behind_u (4 + n) ≡ 231352 * accepted_count n
after_u n = u_next n ∙ rw (four_ways, accepted_is n) refl

recurrence : (n : ℕ) → accepted_count (6 + n) ≡ 127 * accepted_count (5 + n) + 6 * accepted_count (4 + n) + 231352 * accepted_count n
recurrence n =
    let five : 5 + n ≡ suc (4 + n) = omega arith in
    let six : 6 + n ≡ suc (suc (4 + n)) = omega arith in
    rw (six, five) (next (4 + n) ∙ rw (after_u n) refl)

early : (n : ℕ) → string_count behind_u n ≡ 0 → accepted_count (suc (suc n)) ≡ 127 * accepted_count (suc n) + 6 * accepted_count n
early n e = next n ∙ rw e (omega arith)

a0 : accepted_count 0 ≡ 1
unfolding unescape_from
a0 = accepted_is 0 ∙ count_zero unescapes

a1 : accepted_count 1 ≡ 127
a1 = accepted_is 1 ∙ unescapes_next 0 ∙ rw (← accepted_is 0, a0, behind_none) refl

a2 : accepted_count 2 ≡ 16135
a2 = early 0 (u_none 0 (omega arith)) ∙ rw (a1, a0) refl

a3 : accepted_count 3 ≡ 2049907
a3 = early 1 (u_none 1 (omega arith)) ∙ rw (a2, a1) refl

a4 : accepted_count 4 ≡ 260434999
a4 = early 2 (u_none 2 (omega arith)) ∙ rw (a3, a2) refl

a5 : accepted_count 5 ≡ 33087544315
a5 = early 3 (u_none 3 (omega arith)) ∙ rw (a4, a3) refl

a6 : accepted_count 6 ≡ 4203680969351
a6 = recurrence 0 ∙ rw (a5, a4, a0) refl

a7 : accepted_count 7 ≡ 534066037755171
a7 = recurrence 1 ∙ rw (a6, a5, a1) refl

a8 : accepted_count 8 ≡ 67851612613587343
a8 = recurrence 2 ∙ rw (a7, a6, a2) refl

a9 : accepted_count 9 ≡ 8620359672402207851
a9 = recurrence 3 ∙ rw (a8, a7, a3) refl

-- a row by the accepted
row_of : (n a r : ℕ) → accepted_count n ≡ a → a + r ≡ 128 ^ n → CountRow n a r
row_of n a r e h = record { accepts = e; refuses = omega (arith, either n, e, h) }

pub ten_rows : TenRows
ten_rows =
    record {
      row0 = row_of 0 1 0 a0 refl;
      row1 = row_of 1 127 1 a1 refl;
      row2 = row_of 2 16135 249 a2 refl;
      row3 = row_of 3 2049907 47245 a3 refl;
      row4 = row_of 4 260434999 8000457 a4 refl;
      row5 = row_of 5 33087544315 1272194053 a5 refl;
      row6 = row_of 6 4203680969351 194365541753 a6 refl;
      row7 = row_of 7 534066037755171 28883915666141 a7 refl;
      row8 = row_of 8 67851612613587343 4205981424340593 a8 refl;
      row9 = row_of 9 8620359672402207851 603012364452567957 a9 refl;
    }

pub counts : Counts
counts =
    record {
      once = count_once;
      size = strings_length;
      listing = any_listing;
      reading = reading;
      either = either;
      four_ascii = four_string;
      four_pass = ways_are;
      recurrence = recurrence;
      rows = ten_rows;
    }
