-- Bytes that are within the ranges of a row of Table 3-7, one by one, are a well-formed character. Assumes nothing.
use Prim.Native.Nat.{ℕ, ◌≤◌, ◌<◌}
use mathlib.Core.Path.{◌≡◌, refl}
use mathlib.Core.Bool.{true}
use mathlib.Core.Logic.{⊎_elim}
use mathlib.Core.List.{List, [], ◌∷◌}
use native.Mathlib.Omega.{arith}
use Rattle.format.specs.Bytes.{Bytes}
use Rattle.format.specs.Characters.{Range, ◌to◌, fits, well_formed}
use Rattle.format.proofs.Lists.{below}
use Rattle.format.proofs.Characters.Table.{within_intro, whole_row}
use Rattle.utf8.specs.Sound.{Trailing}

fits_one : (q : Range) (b : ℕ) → q.first ≤ b → b ≤ q.last → fits (q ∷ []) (b ∷ []) ≡ true
unfolding fits
fits_one q b h i = rw (within_intro b q h i) refl

fits_more : (q : Range) (rs : List Range) (b : ℕ) (t : Bytes) → q.first ≤ b → b ≤ q.last → fits rs t ≡ true → fits (q ∷ rs) (b ∷ t) ≡ true
unfolding fits
fits_more q rs b t h i f = rw (within_intro b q h i) f

trail_one : (c : ℕ) → Trailing c → fits ((0x80 to 0xBF) ∷ []) (c ∷ []) ≡ true
trail_one c h = fits_one (0x80 to 0xBF) c h.0 h.1

trail_two : (c d : ℕ) → Trailing c → Trailing d → fits ((0x80 to 0xBF) ∷ (0x80 to 0xBF) ∷ []) (c ∷ d ∷ []) ≡ true
trail_two c d h i = fits_more (0x80 to 0xBF) ((0x80 to 0xBF) ∷ []) c (d ∷ []) h.0 h.1 (trail_one d i)

pub two : (a b : ℕ) → 0xC2 ≤ a → a < 0xE0 → Trailing b → well_formed (a ∷ b ∷ []) ≡ true
two a b h i t = whole_row 1 a (b ∷ []) (omega arith) h (omega arith) (trail_one b t)

-- three bytes, whose first trailing byte is held to its narrower range behind E0 and ED
pub three : (a b c : ℕ) → 0xE0 ≤ a → a < 0xF0 → Trailing b → (a ≡ 0xE0 → 0xA0 ≤ b) → (a ≡ 0xED → b ≤ 0x9F) → Trailing c → well_formed (a ∷ b ∷ c ∷ []) ≡ true
three a b c h i t low high u =
    ⊎_elim
    (λ l. whole_row 2 a (b ∷ c ∷ []) (omega arith) h (omega arith) (narrow (0xA0 to 0xBF) (low (omega arith)) t.1))
    (λ g.
    ⊎_elim
    (λ l. whole_row 3 a (b ∷ c ∷ []) (omega arith) g (omega arith) (trail_two b c t u))
    (λ m.
    ⊎_elim
    (λ l. whole_row 4 a (b ∷ c ∷ []) (omega arith) m (omega arith) (narrow (0x80 to 0x9F) t.0 (high (omega arith))))
    (λ o. whole_row 5 a (b ∷ c ∷ []) (omega arith) o (omega arith) (trail_two b c t u))
    (below a 0xEE))
    (below a 0xED))
    (below a 0xE1)
  where
    narrow : (q : Range) → q.first ≤ b → b ≤ q.last → fits (q ∷ (0x80 to 0xBF) ∷ []) (b ∷ c ∷ []) ≡ true
    narrow q x y = fits_more q ((0x80 to 0xBF) ∷ []) b (c ∷ []) x y (trail_one c u)

pub four :
    (a b c d : ℕ) → 0xF0 ≤ a → a ≤ 0xF4 → Trailing b → (a ≡ 0xF0 → 0x90 ≤ b) → (a ≡ 0xF4 → b ≤ 0x8F) → Trailing c → Trailing d
    → well_formed (a ∷ b ∷ c ∷ d ∷ []) ≡ true
four a b c d h i t low high u v =
    ⊎_elim
    (λ l. whole_row 6 a (b ∷ c ∷ d ∷ []) (omega arith) h (omega arith) (rest (0x90 to 0xBF) (low (omega arith)) t.1))
    (λ g.
    ⊎_elim
    (λ l. whole_row 7 a (b ∷ c ∷ d ∷ []) (omega arith) g (omega arith) (rest (0x80 to 0xBF) t.0 t.1))
    (λ m. whole_row 8 a (b ∷ c ∷ d ∷ []) (omega arith) m (omega arith) (rest (0x80 to 0x8F) t.0 (high (omega arith))))
    (below a 0xF4))
    (below a 0xF1)
  where
    rest : (q : Range) → q.first ≤ b → b ≤ q.last → fits (q ∷ (0x80 to 0xBF) ∷ (0x80 to 0xBF) ∷ []) (b ∷ c ∷ d ∷ []) ≡ true
    rest q x y = fits_more q ((0x80 to 0xBF) ∷ (0x80 to 0xBF) ∷ []) b (c ∷ d ∷ []) x y (trail_two c d u v)
