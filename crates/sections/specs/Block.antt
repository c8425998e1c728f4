-- What the search by blocks asks of a block. Assumes nothing.
use Rattle.std.specs.Prelude.{ℕ, Bool, false, ◌&&◌, ◌||◌, [], ◌∷◌, eqb}
use Rattle.format.specs.Bytes.{Bytes}

-- at some place a stands in s and z in t
unfoldable pub near : ℕ → ℕ → Bytes → Bytes → Bool
near a z [] t = false
near a z (b ∷ s) [] = false
near a z (b ∷ s) (c ∷ t) = (eqb b a && eqb c z) || near a z s t
