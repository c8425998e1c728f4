-- Document 02, T-13: the ten lines that the program `countcpim` prints, n rising. The numbers in them are those of the definition, so the
-- function that makes the lines is held to the number of strings, and no number in the code is to be believed. `SampleLines` is proved as
-- `sample_lines` in proofs/CountLines.antt. Assumes nothing.
use Rattle.std.specs.Prelude.{ℕ, ◌≡◌, ◌++◌}
use Rattle.format.specs.Bytes.{Bytes, ascii, lf_text, texts}
use Rattle.format.specs.Showing.{decimal}
use Rattle.counting.specs.Strings.{numbers_below}
use Rattle.counting.specs.Counts.{accepted_count, refused_count}

-- `n=`, `accepted=` and `refused=` in that order, parted by one space, ended by LF
unfoldable pub count_words : ℕ → ℕ → ℕ → Bytes
count_words n a r = ascii "n=" ++ (decimal n ++ (ascii " accepted=" ++ (decimal a ++ (ascii " refused=" ++ (decimal r ++ lf_text)))))

unfoldable pub count_line : ℕ → Bytes
count_line n = count_words n (accepted_count n) (refused_count n)

-- n from 0 to 9
unfoldable pub count_lines : Bytes
count_lines = texts count_line (numbers_below 10)

-- The request's own example, and the longest line.
pub record SampleLines : Type 0 where
  pub shortest : count_line 0 ≡ ascii "n=0 accepted=1 refused=0" ++ lf_text
  pub longest : count_line 9 ≡ ascii "n=9 accepted=8620359672402207851 refused=603012364452567957" ++ lf_text
