-- The classes of bytes that the validators search for, told by a function of the code. Assumes nothing.
use Rattle.std.specs.Prelude.{ℕ, Bool, ◌≡◌}

-- what a function may answer of a byte is whether it is in the class
abbrev pub Answers : (ℕ → Bool → Type 0) → (ℕ → Bool) → Type 0
Answers may class = (b : ℕ) (r : Bool) → may b r → r ≡ class b
