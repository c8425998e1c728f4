-- Document 02, T-13: the strings of n ASCII bytes (0 to 127), as one list, and how many of them pass a test. That the list is what it is
-- called need not be believed: each such string stands in it once, and nothing else (`once` in Counts.antt). Assumes nothing.
use Rattle.std.specs.Prelude.{ℕ, zero, suc, Bool, true, false, ◌&&◌, List, [], ◌∷◌, ◌++◌, map, ltb, eqb, length}
use Rattle.format.specs.Bytes.{Bytes, all, total}

-- the numbers below n, rising
unfoldable pub numbers_below : ℕ → List ℕ
numbers_below zero = []
numbers_below (suc n) = numbers_below n ++ (n ∷ [])

-- each of the bytes in front of each of the strings
unfoldable pub prefixed : List ℕ → List Bytes → List Bytes
prefixed [] ss = []
prefixed (b ∷ bs) ss = map (λ s. b ∷ s) ss ++ prefixed bs ss

-- the strings of n ASCII bytes
unfoldable pub strings : ℕ → List Bytes
strings zero = [] ∷ []
strings (suc n) = prefixed (numbers_below 128) (strings n)

-- s is a string of n ASCII bytes
unfoldable pub is_string : ℕ → Bytes → Bool
is_string n s = eqb (length s) n && all (λ b. ltb b 128) s

-- 1 for a test that passes
abbrev pub one_if : Bool → ℕ
one_if true = 1
one_if false = 0

-- how many strings of a list pass a test
unfoldable pub how_many : (Bytes → Bool) → List Bytes → ℕ
how_many p ss = total (λ s. one_if (p s)) ss

-- how many strings of n ASCII bytes pass a test
abbrev pub string_count : (Bytes → Bool) → ℕ → ℕ
string_count p n = how_many p (strings n)
