-- The lines, one behind another, with the numbers of the definition: rows one behind another are those of the lengths from 0 on. Assumes nothing.
use Prim.Native.Nat.{ℕ, zero, suc, ◌+◌, ◌*◌, ◌≤◌, ◌<◌}
use mathlib.Core.Path.{◌≡◌, refl, sym, ap, ◌∙◌}
use mathlib.Core.List.{List, [], ◌∷◌, ◌++◌, append_assoc, append-nil}
use native.Mathlib.Omega.{arith}
use native.Mathlib.Numerals.{add-one}
use lib.ListN.{length, get_or}
use Rattle.format.specs.Bytes.{Bytes, ascii, lf_text, texts}
use Rattle.format.specs.Showing.{digits_from, decimal}
use Rattle.format.proofs.Lists.{texts_append}
use Rattle.output.specs.Put.{Put}
use Rattle.output.proofs.Puts.{Puts, puts, puts_nothing, puts_then, puts_as}
use Rattle.counting.specs.Strings.{numbers_below}
use Rattle.counting.specs.Counts.{accepted_count, refused_count, CountRow}
use Rattle.counting.specs.CountLines.{count_words, count_line, count_lines, SampleLines}
use Rattle.counting.proofs.Counts.{ten_rows}

-- A line.
pub count_line_put : (n a r : ℕ) {at p q s t u v w : ℕ} {d e f g h i j k : Bytes} → at ≤ length d
    → Puts at (ascii "n=") d e p
    → Put p 20 (decimal n) e f q
    → Puts q (ascii " accepted=") f g s
    → Put s 20 (decimal a) g h t
    → Puts t (ascii " refused=") h i u
    → Put u 20 (decimal r) i j v
    → Puts v lf_text j k w
    → Put at 82 (count_words n a r) d k w
unfolding count_words
count_line_put n a r l x1 x2 x3 x4 x5 x6 x7 =
    puts_as _ 82 (simp append_assoc) (omega arith)
    (puts_then l (puts_then l (puts_then l (puts_then l (puts_then l (puts_then l (puts (ascii "n=") 2 (omega arith) x1) x2) (puts (ascii " accepted=") 10 (omega arith) x3)) x4) (puts (ascii " refused=") 9 (omega arith) x5)) x6) (puts lf_text 1 (omega arith) x7))

-- Rows of two numbers that are the counts of n and of the lengths behind it.
pub data CountRows : ℕ → List (List ℕ) → Type 0 where
  no_row : {n : ℕ} → CountRows n []
  count_row : {n a r : ℕ} {rs : List (List ℕ)} → CountRow n a r → CountRows (suc n) rs → CountRows n ((a ∷ r ∷ []) ∷ rs)

pub row_at : {n : ℕ} {rs : List (List ℕ)} → CountRows n rs → (k m : ℕ) → m ≡ n + k → k < length rs
    → (get_or (get_or rs k []) 0 0 ≡ accepted_count m) × (get_or (get_or rs k []) 1 0 ≡ refused_count m)
row_at no_row k m e h = absurd (omega arith)
row_at {n} (count_row r rs) zero m e h = let same : m ≡ n = omega arith in rw same (sym r.accepts, sym r.refuses)
row_at {n} (count_row r rs) (suc k) m e h = row_at rs k m (omega arith) (omega arith)

-- The lines of the lengths below n, by the rows of all.
pub record CountedLines (rows : List (List ℕ)) (d out : Bytes) (to n : ℕ) : Type 0 where
  pub ten : length rows ≡ 10
  pub counts : CountRows 0 rows
  pub within : n ≤ 10
  pub lines : Put 0 (82 * n) (texts count_line (numbers_below n)) d out to

pub counted_none : {rows : List (List ℕ)} (d : Bytes) → length rows ≡ 10 → CountRows 0 rows → CountedLines rows d d 0 0
unfolding numbers_below texts
counted_none d e r = record { ten = e; counts = r; within = omega arith; lines = puts_nothing 0 (82 * 0) d }

lines_next : (n : ℕ) → texts count_line (numbers_below n) ++ count_line n ≡ texts count_line (numbers_below (suc n))
unfolding numbers_below texts
lines_next n = sym (texts_append count_line (numbers_below n) (n ∷ []) ∙ rw (append-nil (count_line n)) refl)

module _ {rows : List (List ℕ)} {d out : Bytes} {to n : ℕ} (c : CountedLines rows d out to n) where
  pub counted_next : {k : Bytes} {w : ℕ} → n < 10
      → Put to 82 (count_words n (get_or (get_or rows n []) 0 0) (get_or (get_or rows n []) 1 0)) out k w
      → CountedLines rows d k w (n + 1)
  unfolding count_line
  counted_next {k} {w} h p =
      let at = row_at c.counts n n (omega arith) (omega (arith, c.ten)) in
      rw (add-one n)
      record {
        ten = c.ten;
        counts = c.counts;
        within = omega arith;
        lines = puts_as _ (82 * suc n) (lines_next n) (omega arith) (puts_then (omega arith) c.lines (rw (at.0, at.1) at p));
      }

  pub counted_all : 10 ≤ n → Put 0 820 count_lines d out to
  unfolding count_lines
  counted_all h =
      let e : n ≡ 10 = omega (arith, c.within) in
      puts_as _ 820 (ap (λ (k : ℕ). texts count_line (numbers_below k)) e) (omega arith) c.lines

-- Two lines as they are read.
pub sample_lines : SampleLines
unfolding count_line count_words decimal digits_from
sample_lines =
    record {
      shortest = rw (ten_rows.row0.accepts, ten_rows.row0.refuses) refl;
      longest = rw (ten_rows.row9.accepts, ten_rows.row9.refuses) refl;
    }
