-- Where a block may begin or end, and how far going over blocks leads. That all gone over is UTF-8 is proved of these, not said in
-- them. Assumes nothing.
use Rattle.std.specs.Prelude.{ℕ, zero, suc, ◌+◌, ◌-◌, ◌<◌, max, Bool, ◌&&◌, [], ◌∷◌, leb, ltb, length, take, drop, get_or, if◌then◌else◌}
use Rattle.format.specs.Bytes.{Bytes, all}
use Rattle.utf8.specs.Sound.{all_sound}

-- no character reaches over the place three behind k
pub record Settled (s : Bytes) (k : ℕ) : Type 0 where
  pub third : get_or s k 0 < 0xF0
  pub second : get_or s (suc k) 0 < 0xE0
  pub first : get_or s (suc (suc k)) 0 < 0xC2

-- the same as a test
unfoldable pub is_settled : Bytes → ℕ → Bool
is_settled s k = ltb (get_or s k 0) 0xF0 && (ltb (get_or s (k + 1) 0) 0xE0 && ltb (get_or s (k + 2) 0) 0xC2)

-- the largest byte; 0 where there is none
unfoldable pub largest_of : Bytes → ℕ
largest_of [] = 0
largest_of (b ∷ s) = max b (largest_of s)

-- the end of the 67 bytes from k on, or the lead byte before it of a character that reaches over it
unfoldable pub whole_end : Bytes → ℕ → ℕ
whole_end s k =
    if leb 0xC2 (get_or s (k + 66) 0) then k + 66 else (if leb 0xE0 (get_or s (k + 65) 0) then k + 65 else (if leb 0xF0 (get_or s (k + 64) 0) then k + 64 else k + 67))

-- behind the 64 bytes three behind k, where each is sound; else the place where they begin
unfoldable pub sound_end : Bytes → ℕ → ℕ
sound_end s k = if all_sound 64 (take 67 (drop k s)) then whole_end s k else k + 3

-- behind the block of 64 bytes from a place on, where it is ASCII, or sound behind a settled place; else that place
unfoldable pub block_end : Bytes → ℕ → ℕ
block_end s at =
    if all (λ b. ltb b 0x80) (take 64 (drop at s)) then at + 64 else (if leb 3 at && is_settled s (at - 3) then sound_end s (at - 3) else at)

-- Block after block, while 64 bytes are left. (The first number only bounds the recursion.)
unfoldable pub blocks_from : ℕ → Bytes → ℕ → ℕ
blocks_from zero s at = at
blocks_from (suc k) s at = if leb 64 (length s - at) then blocks_from k s (block_end s at) else at

-- behind the last block that is passed over, going from a place on
unfoldable pub blocks_end : Bytes → ℕ → ℕ
blocks_end s at = blocks_from (length s) s at
