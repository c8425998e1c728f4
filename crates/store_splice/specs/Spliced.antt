-- A store's used bytes with some of them replaced. Assumes nothing.
use Rattle.std.specs.Prelude.{ℕ, ◌+◌, ◌≡◌, List, ◌++◌, length, take, drop}
use Rattle.format.specs.Bytes.{Bytes, total}

-- the bytes of an entry
abbrev pub entry_size : Bytes → Bytes → Bytes → ℕ
entry_size name value tail = 16 + (length name + (length value + length tail))

-- the used bytes of a store with s in the place of the old bytes at a place
unfoldable pub spliced : ℕ → ℕ → ℕ → Bytes → Bytes → Bytes
spliced at old used s store = take at store ++ (s ++ drop (at + old) (take used store))

-- a list in three parts, by what is counted of the first two: the bytes of the first, and the bytes and the number of the second
pub record Parted {A : Type 0} (need : A → ℕ) (xs l g h : List A) (at old many : ℕ) : Type 0 where
  pub parts : xs ≡ l ++ (g ++ h)
  pub place : at ≡ total need l
  pub bytes : old ≡ total need g
  pub entries : many ≡ length g
