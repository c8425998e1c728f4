-- A search that is passed on. Only contracts of functions that no other crate sees speak of it. Assumes nothing.
use Rattle.std.specs.Prelude.{ℕ, ◌≡◌}
use Rattle.std.specs.Fn.{Shared}
use denote.Ref.{Bor}
use Rattle.format.specs.Bytes.{Bytes}
use Rattle.sections.specs.Place.{place}

-- f finds the pattern p in any text
pub record Finds {F : Type 0} (g : Shared F (Bor Bytes × (Bor Bytes × Unit {0})) ℕ) (f : F) (p : Bor Bytes) : Type 0 where
  pub says : (x : Bor Bytes) (r : ℕ) → g.post f (x, (p, tt)) r → r ≡ place p.now x.now
