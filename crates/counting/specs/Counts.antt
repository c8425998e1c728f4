-- Document 02, T-13: how many strings of n ASCII bytes the first reading's unescaping accepts, and how many it refuses with 5. Unescaping is
-- `unescape` of crates/format/specs/Escaping.antt, the source's manner; the second reading's is another function, and nothing here speaks of
-- it. Proved as `counts` in proofs/Counts.antt. Assumes nothing.
use Rattle.std.specs.Prelude.{ℕ, ◌+◌, ◌*◌, ◌^◌, ◌≡◌, Bool, true, List, ◌++◌, eqb, length, take}
use Rattle.std.proofs.Math.Option.{Option, none, some}
use Rattle.format.specs.Bytes.{Bytes, ascii, same}
use Rattle.format.specs.Characters.{trim}
use Rattle.format.specs.Escaping.{unescape}
use Rattle.format.specs.Refusals.{Out, accepted, refused, bad_escape, numbers, ◌>>◌, ◌>>=◌}
use Rattle.format.specs.Validators.{header_value}
use Rattle.format.specs.Reading.{read_value}
use Rattle.counting.specs.Strings.{strings, is_string, one_if, how_many, string_count}

-- the value, or 5 where there is none
abbrev pub or_bad_escape : Option Bytes → Out Bytes
or_bad_escape none = refused bad_escape
or_bad_escape (some v) = accepted v

-- what unescaping answers to a string
unfoldable pub unescaping : Bytes → Out Bytes
unescaping s = or_bad_escape (unescape s)

-- the number of the answer is k: 0 where the string is accepted, else that of document 01's table
unfoldable pub is_answered : ℕ → Bytes → Bool
is_answered k s = eqb (numbers (unescaping s)).number k

-- the strings of n ASCII bytes that are accepted, and those that are refused with 5
unfoldable pub accepted_count : ℕ → ℕ
accepted_count n = string_count (is_answered 0) n

unfoldable pub refused_count : ℕ → ℕ
refused_count n = string_count (is_answered 5) n

-- in how many ways the four characters after `\u` pass
unfoldable pub ways : ℕ
ways = string_count (λ s. is_answered 0 (ascii "\\u" ++ s)) 4

-- the counts of one length
pub record CountRow (n a r : ℕ) : Type 0 where
  pub accepts : accepted_count n ≡ a
  pub refuses : refused_count n ≡ r

-- for n from 0 to 9
pub record TenRows : Type 0 where
  pub row0 : CountRow 0 1 0
  pub row1 : CountRow 1 127 1
  pub row2 : CountRow 2 16135 249
  pub row3 : CountRow 3 2049907 47245
  pub row4 : CountRow 4 260434999 8000457
  pub row5 : CountRow 5 33087544315 1272194053
  pub row6 : CountRow 6 4203680969351 194365541753
  pub row7 : CountRow 7 534066037755171 28883915666141
  pub row8 : CountRow 8 67851612613587343 4205981424340593
  pub row9 : CountRow 9 8620359672402207851 603012364452567957

pub record Counts : Type 0 where
  -- `strings n` holds each string of n ASCII bytes once and nothing else; there are 128 to the n. Any list that does gives the same counts.
  pub once : (n : ℕ) (s : Bytes) → how_many (same s) (strings n) ≡ one_if (is_string n s)
  pub size : (n : ℕ) → length (strings n) ≡ 128 ^ n
  pub listing : (n : ℕ) (ss : List Bytes) → ((s : Bytes) → how_many (same s) ss ≡ one_if (is_string n s))
      → (p : Bytes → Bool) → how_many p ss ≡ string_count p n
  -- To read a header value is to trim it, to unescape it (5) and to check its length (10).
  pub reading : (s : Bytes) → read_value s ≡ ◌>>=◌ (unescaping (trim s)) (λ v. ◌>>◌ (header_value v) (accepted v))
  -- The accepted and the refused are all strings of the length.
  pub either : (n : ℕ) → accepted_count n + refused_count n ≡ 128 ^ n
  -- What stands after `\u` where a string is accepted, whatever it is, begins with four ASCII bytes; these pass in so many ways.
  pub four_ascii : (s : Bytes) → is_answered 0 (ascii "\\u" ++ s) ≡ true → is_string 4 (take 4 s) ≡ true
  pub four_pass : ways ≡ 231352
  -- What is accepted at a length of six and more, by the lengths before it.
  pub recurrence : (n : ℕ) → accepted_count (6 + n) ≡ 127 * accepted_count (5 + n) + 6 * accepted_count (4 + n) + 231352 * accepted_count n
  pub rows : TenRows
