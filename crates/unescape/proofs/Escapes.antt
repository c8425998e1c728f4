-- The escape behind a backslash, by the bytes that stand there. Assumes nothing.
use Prim.Native.Nat.{ℕ, ◌≤◌, ◌<◌}
use mathlib.Core.Path.{◌≡◌, refl}
use mathlib.Core.Bool.{false}
use native.Mathlib.Omega.{arith}
use Rattle.format.specs.Characters.{◌to◌, is_scalar}
use Rattle.format.proofs.Characters.Table.{within_below, within_above}

-- a surrogate is no scalar value
pub scalar_surrogate : (n : ℕ) → 0xD800 ≤ n → n < 0xE000 → is_scalar n ≡ false
unfolding is_scalar
scalar_surrogate n h k = rw (within_above n (0 to 0xD7FF) (omega arith), within_below n (0xE000 to 0x10FFFF) k) refl
