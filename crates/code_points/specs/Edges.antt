-- The first and the last character of a text, asked by a test. Only contracts of functions that no other crate sees speak of it.
-- Assumes nothing.
use Rattle.std.specs.Prelude.{ℕ, ◌-◌, ◌≤◌, ◌<◌, ◌≡◌, Bool, true, false, List, ◌∷◌, length, take, drop}
use Rattle.std.specs.Fn.{Shared}
use denote.Ref.{Bor}
use Rattle.format.specs.Bytes.{Bytes}
use Rattle.format.specs.Characters.{chars, well_formed, last_of}

-- The test f answers what p says, and passes only well-formed characters of at most three bytes.
pub record Tests {F : Type 0} (g : Shared F (Bor Bytes × Unit {0}) Bool) (f : F) (p : Bytes → Bool) : Type 0 where
  pub says : (x : Bor Bytes) (b : Bool) → g.post f (x, tt) b → b ≡ p x.now
  pub whole : (x : Bytes) → p x ≡ true → well_formed x ≡ true
  pub short : (x : Bytes) → p x ≡ true → length x ≤ 3

module _ (p : Bytes → Bool) (u : Bytes) where
  -- the first n bytes of u are a character that passes
  pub record AFront (n : ℕ) : Type 0 where
    pub some : 0 < n
    pub inside : n ≤ length u
    pub passes : p (take n u) ≡ true

  -- the last n bytes
  pub record ABack (n : ℕ) : Type 0 where
    pub some : 0 < n
    pub inside : n ≤ length u
    pub passes : p (drop (length u - n) u) ≡ true

  -- if u has characters, the first does not pass
  pub record NoFront : Type 0 where
    pub fails : (g : Bytes) (gs : List Bytes) → chars u ≡ g ∷ gs → p g ≡ false

  -- the last does not
  pub record NoBack : Type 0 where
    pub fails : (g : Bytes) (gs : List Bytes) → chars u ≡ g ∷ gs → p (last_of g gs) ≡ false
