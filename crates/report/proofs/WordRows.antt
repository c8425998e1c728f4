-- The rows of words are short, and every loss has its words. The line of a number, in rows written as lines, is the row of that number: no
-- row has an LF. Assumes nothing.
use Rattle.std.specs.Prelude.{if◌then◌else◌}
use Prim.Native.Nat.{ℕ, zero, suc, ◌≤◌}
use mathlib.Core.Path.{◌≡◌, refl, ap, ◌∙◌}
use mathlib.Core.Bool.{Bool, true, false, not}
use mathlib.Core.List.{List, [], ◌∷◌, ◌++◌}
use native.Mathlib.Omega.{arith}
use lib.Dec.{leb, eqb}
use lib.ListN.{length}
use borrow.Author.Tests.{leb-true}
use Rattle.format.specs.Bytes.{Bytes, is_empty, all, lf, lf_text, up_to, past, texts}
use Rattle.format.proofs.Lists.{and_left, and_right, clash}
use Rattle.report.specs.Words.{row, conditions, reasons, condition, reason}

-- the rows as one text, each ended by LF; and the line of a number in a text
unfoldable pub lined : List Bytes → Bytes
lined rs = texts (λ r. r ++ lf_text) rs

unfoldable pub line_at : ℕ → Bytes → Bytes
line_at zero s = up_to lf s
line_at (suc n) s = line_at n (past lf s)

-- no byte of the row ends a line
unfoldable pub clear : Bytes → Bool
clear r = all (λ b. not (eqb lf b)) r

-- every row has at most 80 bytes
unfoldable fit : List Bytes → Bool
fit rs = all (λ r. leb (length r) 80) rs

module _ (rest : Bytes) where
  row_first : (r : Bytes) → clear r ≡ true → up_to lf ((r ++ lf_text) ++ rest) ≡ r
  unfolding clear all up_to
  row_first [] h = refl
  row_first (b ∷ r) h = by (eqb lf b) (and_left (not (eqb lf b)) (clear r) h) (row_first r (and_right (not (eqb lf b)) (clear r) h))
    where
      by : (t : Bool) → not t ≡ true → up_to lf ((r ++ lf_text) ++ rest) ≡ r → (if t then [] else b ∷ up_to lf ((r ++ lf_text) ++ rest)) ≡ b ∷ r
      by true n e = clash n refl
      by false n e = ap (λ (s : Bytes). b ∷ s) e

  row_past : (r : Bytes) → clear r ≡ true → past lf ((r ++ lf_text) ++ rest) ≡ rest
  unfolding clear all past
  row_past [] h = refl
  row_past (b ∷ r) h = by (eqb lf b) (and_left (not (eqb lf b)) (clear r) h) (row_past r (and_right (not (eqb lf b)) (clear r) h))
    where
      by : (t : Bool) → not t ≡ true → past lf ((r ++ lf_text) ++ rest) ≡ rest → (if t then (r ++ lf_text) ++ rest else past lf ((r ++ lf_text) ++ rest)) ≡ rest
      by true n e = clash n refl
      by false n e = e

line_none : (n : ℕ) → line_at n [] ≡ []
unfolding line_at up_to past
line_none zero = refl
line_none (suc n) = line_none n

pub line_row : (n : ℕ) (rs : List Bytes) → all clear rs ≡ true → line_at n (lined rs) ≡ row n rs
unfolding line_at lined row all texts
line_row n [] h = line_none n
line_row zero (r ∷ rs) h = row_first (texts (λ r. r ++ lf_text) rs) r (and_left (clear r) (all clear rs) h)
line_row (suc n) (r ∷ rs) h = ap (line_at n) (row_past (texts (λ r. r ++ lf_text) rs) r (and_left (clear r) (all clear rs) h)) ∙ line_row n rs (and_right (clear r) (all clear rs) h)

row_short : (n : ℕ) (rs : List Bytes) → fit rs ≡ true → length (row n rs) ≤ 80
unfolding row fit all
row_short n [] h = omega arith
row_short zero (r ∷ rs) h = leb-true (length r) 80 (and_left (leb (length r) 80) (fit rs) h)
row_short (suc n) (r ∷ rs) h = row_short n rs (and_right (leb (length r) 80) (fit rs) h)

-- no row has such a number
row_none : (n : ℕ) (rs : List Bytes) → length rs ≤ n → row n rs ≡ []
unfolding row
row_none n [] h = refl
row_none zero (r ∷ rs) h = absurd (omega arith)
row_none (suc n) (r ∷ rs) h = row_none n rs (omega arith)

pub condition_line : (n : ℕ) → line_at n (lined conditions) ≡ condition n
unfolding conditions condition clear all
condition_line n = line_row n conditions refl

pub condition_short : (n : ℕ) → length (condition n) ≤ 80
unfolding conditions condition fit all
condition_short n = row_short n conditions refl

pub reason_line : (n : ℕ) → line_at n (lined reasons) ≡ reason n
unfolding reasons reason clear all
reason_line n = line_row n reasons refl

pub reason_short : (n : ℕ) → length (reason n) ≤ 80
unfolding reasons reason fit all
reason_short n = row_short n reasons refl

-- every number that a loss can have has words
pub reasons_given : all (λ n. not (is_empty (reason n))) (0 ∷ 1 ∷ 2 ∷ 3 ∷ 4 ∷ 5 ∷ 6 ∷ 7 ∷ 9 ∷ []) ≡ true
unfolding reasons reason row is_empty all
reasons_given = refl

-- 8, which no loss has, has none
pub reason_none : reason 8 ≡ []
unfolding reasons reason row
reason_none = refl
