-- The ranges of Table 3-7 as the code holds them, each a pair of its ends. Assumes nothing.
use Rattle.std.specs.Prelude.{ℕ, List, map}
use Rattle.format.specs.Characters.{Range, ◌to◌}

abbrev pub coded : ℕ × ℕ → Range
coded p = p.0 to p.1

abbrev pub coded_all : List (ℕ × ℕ) → List Range
coded_all ps = map coded ps
