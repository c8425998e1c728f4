-- What the test of a block asks of each byte, by the three bytes before it. It is not UTF-8 itself: proofs/Walk.antt derives
-- Table 3-7 from it. Assumes nothing.
use Rattle.std.specs.Prelude.{ℕ, zero, suc, ◌+◌, ◌≤◌, ◌<◌, ◌≡◌, Bool, true, ◌&&◌, ◌||◌, ◌⊎◌, leb, ltb, eqb, get_or, if◌then◌else◌}
use Rattle.format.specs.Bytes.{Bytes}

abbrev pub Trailing : ℕ → Type 0
Trailing b = (0x80 ≤ b) × (b ≤ 0xBF)

-- The byte b behind p1, p2 before p1 and p3 before p2: a trailing byte exactly where one of them leads so far, in the narrower
-- range that some lead bytes ask of the first; else a byte that leads.
pub record Sound (p3 p2 p1 b : ℕ) : Type 0 where
  pub first : 0xC2 ≤ p1 → Trailing b
  pub second : 0xE0 ≤ p2 → Trailing b
  pub third : 0xF0 ≤ p3 → Trailing b
  pub leading : p1 < 0xC2 → p2 < 0xE0 → p3 < 0xF0 → (b < 0x80) ⊎ (0xC2 ≤ b)
  pub greatest : b ≤ 0xF4
  pub behind_E0 : p1 ≡ 0xE0 → 0xA0 ≤ b
  pub behind_ED : p1 ≡ 0xED → b ≤ 0x9F
  pub behind_F0 : p1 ≡ 0xF0 → 0x90 ≤ b
  pub behind_F4 : p1 ≡ 0xF4 → b ≤ 0x8F

-- the byte three behind the place k is sound
abbrev pub SoundAt : Bytes → ℕ → Type 0
SoundAt s k = Sound (get_or s k 0) (get_or s (suc k) 0) (get_or s (suc (suc k)) 0) (get_or s (suc (suc (suc k))) 0)

-- The same as tests.
-- b is a trailing byte
unfoldable pub is_trailing : ℕ → Bool
is_trailing b = leb 0x80 b && leb b 0xBF

-- b leads, or stands alone
unfoldable pub is_leading : ℕ → Bool
is_leading b = ltb b 0x80 || leb 0xC2 b

-- a trailing byte is to follow p1, with p2 before p1 and p3 before p2
unfoldable pub is_owed : ℕ → ℕ → ℕ → Bool
is_owed p3 p2 p1 = leb 0xC2 p1 || (leb 0xE0 p2 || leb 0xF0 p3)

-- b trails where a trailing byte is owed, and leads where none is
unfoldable pub in_turn : ℕ → ℕ → ℕ → ℕ → Bool
in_turn p3 p2 p1 b = if is_owed p3 p2 p1 then is_trailing b else is_leading b

-- the least and the greatest byte that may follow p1
unfoldable pub least_behind : ℕ → ℕ
least_behind p1 = if eqb p1 0xE0 then 0xA0 else (if eqb p1 0xF0 then 0x90 else 0)

unfoldable pub greatest_behind : ℕ → ℕ
greatest_behind p1 = if eqb p1 0xED then 0x9F else (if eqb p1 0xF4 then 0x8F else 0xF4)

unfoldable pub is_sound : ℕ → ℕ → ℕ → ℕ → Bool
is_sound p3 p2 p1 b = in_turn p3 p2 p1 b && (leb (least_behind p1) b && leb b (greatest_behind p1))

-- the byte three behind the place k is sound
unfoldable pub is_sound_at : Bytes → ℕ → Bool
is_sound_at s k = is_sound (get_or s k 0) (get_or s (k + 1) 0) (get_or s (k + 2) 0) (get_or s (k + 3) 0)

-- so is the byte three behind each of the first n places
unfoldable pub all_sound : ℕ → Bytes → Bool
all_sound zero s = true
all_sound (suc n) s = all_sound n s && is_sound_at s n

-- b behind p1 where no character has more than two bytes
unfoldable pub is_pair : ℕ → ℕ → Bool
is_pair p1 b = ltb b 0xE0 && in_turn 0 0 p1 b

-- so stands the byte three behind each of the first n places
unfoldable pub all_pairs : ℕ → Bytes → Bool
all_pairs zero s = true
all_pairs (suc n) s = all_pairs n s && is_pair (get_or s (n + 2) 0) (get_or s (n + 3) 0)
