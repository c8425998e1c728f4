-- What a function that writes a text into an output ensures, with a bound that its callers need for room. Assumes nothing.
use Rattle.std.specs.Prelude.{ℕ, ◌+◌, ◌≤◌, ◌≡◌, length}
use Rattle.format.specs.Bytes.{Bytes, pasted}

-- s is put from the place at on, over d, which gives out; it ends at r, at most `most` bytes behind at
pub record Put (at most : ℕ) (s d out : Bytes) (r : ℕ) : Type 0 where
  pub place : r ≡ at + length s
  pub bytes : out ≡ pasted at s d
  pub within : r ≤ at + most
