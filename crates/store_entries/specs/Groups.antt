-- Lists in the order of their names: those of names before k, of the name k, and of names behind it. Assumes nothing.
use Rattle.std.specs.Prelude.{ℕ, ◌≡◌, Bool, List, length}
use Rattle.format.specs.Bytes.{Bytes, total, same, before}
use Rattle.store_entries.specs.Passing.{whilst, after}

module _ {A : Type 0} (key : A → Bytes) (k : Bytes) where
  abbrev pub is_low : A → Bool
  is_low y = before (key y) k

  abbrev pub is_own : A → Bool
  is_own y = same k (key y)

  abbrev pub is_high : A → Bool
  is_high y = before k (key y)

  abbrev pub low : List A → List A
  low xs = whilst is_low xs

  abbrev pub own : List A → List A
  own xs = whilst is_own (after is_low xs)

  abbrev pub high : List A → List A
  high xs = after is_own (after is_low xs)

-- the bytes before those of a name, theirs, and how many they are, where each element needs some bytes
pub record Grouped {A : Type 0} (key : A → Bytes) (need : A → ℕ) (name : Bytes) (xs : List A) (at size many : ℕ) : Type 0 where
  pub place : at ≡ total need (low key name xs)
  pub bytes : size ≡ total need (own key name xs)
  pub entries : many ≡ length (own key name xs)
