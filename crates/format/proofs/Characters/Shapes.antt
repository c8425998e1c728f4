-- The four shapes of a well-formed character, and its code point as a sum. One test over the rows of Table 3-7, of their ranges and
-- of the code points of their first and last characters, gives the shapes. Assumes nothing.
use Prim.Native.Nat.{ℕ, zero, suc, ◌+◌, ◌*◌, ◌≤◌}
use mathlib.Core.Path.{◌≡◌, refl}
use mathlib.Core.Bool.{Bool, true, false, ◌&&◌, ◌||◌, false≢true, or-true}
use mathlib.Core.Logic.{⊎_elim}
use mathlib.Core.List.{List, [], ◌∷◌}
use native.Mathlib.Omega.{arith}
use lib.Dec.{leb}
use lib.ListN.{get_or}
use borrow.Author.Tests.{leb-true}
use Rattle.format.specs.Bytes.{Bytes, all}
use Rattle.format.specs.Characters.{Range, ◌to◌, within, Row, table_3_7, fits, well_formed, code_point, is_scalar}
use Rattle.format.proofs.Lists.{bcase, and_left, and_right, all_head, all_tail}
use Rattle.format.proofs.Characters.Table.{within_low, within_high, within_intro, picks}
use Rattle.format.proofs.Characters.Chars.{whole}

abbrev pub Between : ℕ → ℕ → ℕ → Type 0
Between low n high = (low ≤ n) × (n ≤ high)

-- The four shapes of a well-formed character, with what its bytes say of its code point.
pub data Shape : Bytes → Type 0 where
  one : (a : ℕ) → Between 0 a 0x7F → Shape (a ∷ [])
  two : (a b : ℕ) → Between 0xC2 a 0xDF → Between 0x80 b 0xBF → Shape (a ∷ b ∷ [])
  three :
      (a b c : ℕ) → Between 0xE0 a 0xEF → Between 0x80 b 0xBF → Between 0x80 c 0xBF → 0x800 ≤ code_point (a ∷ b ∷ c ∷ [])
      → is_scalar (code_point (a ∷ b ∷ c ∷ [])) ≡ true → Shape (a ∷ b ∷ c ∷ [])
  four :
      (a b c d : ℕ) → Between 0xF0 a 0xF4 → Between 0x80 b 0xBF → Between 0x80 c 0xBF → Between 0x80 d 0xBF
      → Between 0x10000 (code_point (a ∷ b ∷ c ∷ d ∷ [])) 0x10FFFF → Shape (a ∷ b ∷ c ∷ d ∷ [])

-- a range lies in another
abbrev inside : Range → Range → Bool
inside r q = leb q.first r.first && leb r.last q.last

-- the code points from low to high are scalar values
abbrev clear : ℕ → ℕ → Bool
clear low high = leb high 0xD7FF || leb 0xE000 low

-- the tests of a row: of its lead and trailing ranges, and of the code points of its first and its last character
abbrev sound : Range → List Range → List Bool
sound l [] = inside l (0 to 0x7F) ∷ []
sound l (q ∷ []) = inside l (0xC2 to 0xDF) ∷ inside q (0x80 to 0xBF) ∷ []
sound l (q ∷ r ∷ []) =
    inside l (0xE0 to 0xEF)
    ∷ inside q (0x80 to 0xBF)
    ∷ inside r (0x80 to 0xBF)
    ∷ leb 0x800 (code_point (l.first ∷ q.first ∷ r.first ∷ []))
    ∷ clear (code_point (l.first ∷ q.first ∷ r.first ∷ [])) (code_point (l.last ∷ q.last ∷ r.last ∷ []))
    ∷ []
sound l (q ∷ r ∷ s ∷ []) =
    inside l (0xF0 to 0xF4)
    ∷ inside q (0x80 to 0xBF)
    ∷ inside r (0x80 to 0xBF)
    ∷ inside s (0x80 to 0xBF)
    ∷ leb 0x10000 (code_point (l.first ∷ q.first ∷ r.first ∷ s.first ∷ []))
    ∷ leb (code_point (l.last ∷ q.last ∷ r.last ∷ s.last ∷ [])) 0x10FFFF
    ∷ []
sound l (q ∷ r ∷ s ∷ t ∷ rs) = false ∷ []

abbrev every : List Bool → Bool
every bs = all (λ b. b) bs

holds : (bs : List Bool) (k : ℕ) → every bs ≡ true → get_or bs k true ≡ true
holds [] k h = refl
holds (b ∷ bs) zero h = all_head (λ b. b) b bs h
holds (b ∷ bs) (suc k) h = holds bs k (all_tail (λ b. b) b bs h)

abbrev sound_row : Row → Bool
sound_row r = every (sound r.lead r.trail)

table_sound : all sound_row table_3_7 ≡ true
unfolding all code_point
table_sound = refl

-- code points as sums: what is cut off the bytes is a number of its own
pub value_two : (a b : ℕ) → Between 0xC0 a 0xDF → Between 0x80 b 0xBF → code_point (a ∷ b ∷ []) + 12416 ≡ a * 64 + b
unfolding code_point
value_two a b h i = omega arith

pub value_three : (a b c : ℕ) → Between 0xE0 a 0xEF → Between 0x80 b 0xBF → Between 0x80 c 0xBF → code_point (a ∷ b ∷ c ∷ []) + 925824 ≡ a * 4096 + (b * 64 + c)
unfolding code_point
value_three a b c h i j = omega arith

pub value_four : (a b c d : ℕ) → Between 0xF0 a 0xF7 → Between 0x80 b 0xBF → Between 0x80 c 0xBF → Between 0x80 d 0xBF → code_point (a ∷ b ∷ c ∷ d ∷ []) + 63447168 ≡ a * 262144 + (b * 4096 + (c * 64 + d))
unfolding code_point
value_four a b c d h i j k = omega arith

-- a number in a range that lies in another: the range's ends too
lies : (n : ℕ) (r q : Range) → inside r q ≡ true → within n r ≡ true → (q.first ≤ r.first) × (r.first ≤ n) × (n ≤ r.last) × (r.last ≤ q.last)
lies n r q h w = (
  leb-true q.first r.first (and_left (leb q.first r.first) (leb r.last q.last) h),
  within_low n r w,
  within_high n r w,
  leb-true r.last q.last (and_right (leb q.first r.first) (leb r.last q.last) h),
)

pub scalar_low : (n : ℕ) → n ≤ 0xD7FF → is_scalar n ≡ true
unfolding is_scalar
scalar_low n h = rw (within_intro n (0 to 0xD7FF) (omega arith) h) refl

pub scalar_high : (n : ℕ) → 0xE000 ≤ n → n ≤ 0x10FFFF → is_scalar n ≡ true
unfolding is_scalar
scalar_high n h i = rw (within_intro n (0xE000 to 0x10FFFF) h i) (or-true (within n (0 to 0xD7FF)))

scalar_clear : (low n high : ℕ) → clear low high ≡ true → low ≤ n → n ≤ high → high ≤ 0x10FFFF → is_scalar n ≡ true
scalar_clear low n high c h i j =
    ⊎_elim
    (λ t. scalar_low n (omega (arith, leb-true high 0xD7FF t)))
    (λ f. scalar_high n (omega (arith, leb-true 0xE000 low (rw f at c))) (omega arith))
    (bcase (leb high 0xD7FF))

-- bytes that fit ranges, one by one
data Fit : List Range → Bytes → Type 0 where
  end : Fit [] []
  fit : {r : Range} {rs : List Range} {b : ℕ} {t : Bytes} → within b r ≡ true → Fit rs t → Fit (r ∷ rs) (b ∷ t)

fitted : (rs : List Range) (t : Bytes) → fits rs t ≡ true → Fit rs t
unfolding fits
fitted [] [] f = end
fitted [] (b ∷ t) f = absurd (false≢true f)
fitted (r ∷ rs) [] f = absurd (false≢true f)
fitted (r ∷ rs) (b ∷ t) f = fit (and_left (within b r) (fits rs t) f) (fitted rs t (and_right (within b r) (fits rs t) f))

-- a row that passes the tests and bytes that fit it give a shape
shaped : {rs : List Range} {t : Bytes} (l : Range) (a : ℕ) → Fit rs t → within a l ≡ true → every (sound l rs) ≡ true → Shape (a ∷ t)
shaped l a end w s = let ha = lies a l (0 to 0x7F) (holds (sound l []) 0 s) w in one a (omega arith)
shaped l a (fit {r = q} {b = b} x end) w s =
    let ha = lies a l (0xC2 to 0xDF) (holds (sound l (q ∷ [])) 0 s) w in
    let hb = lies b q (0x80 to 0xBF) (holds (sound l (q ∷ [])) 1 s) x in
    two a b (omega arith) (omega arith)
shaped l a (fit {r = q} {b = b} x (fit {r = r} {b = c} y end)) w s =
    let ha = lies a l (0xE0 to 0xEF) (holds (sound l (q ∷ r ∷ [])) 0 s) w in
    let hb = lies b q (0x80 to 0xBF) (holds (sound l (q ∷ r ∷ [])) 1 s) x in
    let hc = lies c r (0x80 to 0xBF) (holds (sound l (q ∷ r ∷ [])) 2 s) y in
    let v = value_three a b c (omega arith) (omega arith) (omega arith) in
    let low = value_three l.first q.first r.first (omega arith) (omega arith) (omega arith) in
    let high = value_three l.last q.last r.last (omega arith) (omega arith) (omega arith) in
    three a b c (omega arith) (omega arith) (omega arith)
    (omega (arith, leb-true 0x800 (code_point (l.first ∷ q.first ∷ r.first ∷ [])) (holds (sound l (q ∷ r ∷ [])) 3 s)))
    (scalar_clear
    (code_point (l.first ∷ q.first ∷ r.first ∷ []))
    (code_point (a ∷ b ∷ c ∷ []))
    (code_point (l.last ∷ q.last ∷ r.last ∷ []))
    (holds (sound l (q ∷ r ∷ [])) 4 s)
    (omega arith)
    (omega arith)
    (omega arith))
shaped l a (fit {r = q} {b = b} x (fit {r = r} {b = c} y (fit {r = p} {b = d} z end))) w s =
    let tests = sound l (q ∷ r ∷ p ∷ []) in
    let ha = lies a l (0xF0 to 0xF4) (holds tests 0 s) w in
    let hb = lies b q (0x80 to 0xBF) (holds tests 1 s) x in
    let hc = lies c r (0x80 to 0xBF) (holds tests 2 s) y in
    let hd = lies d p (0x80 to 0xBF) (holds tests 3 s) z in
    let v = value_four a b c d (omega arith) (omega arith) (omega arith) (omega arith) in
    let low = value_four l.first q.first r.first p.first (omega arith) (omega arith) (omega arith) (omega arith) in
    let high = value_four l.last q.last r.last p.last (omega arith) (omega arith) (omega arith) (omega arith) in
    let least = leb-true 0x10000 (code_point (l.first ∷ q.first ∷ r.first ∷ p.first ∷ [])) (holds tests 4 s) in
    let most = leb-true (code_point (l.last ∷ q.last ∷ r.last ∷ p.last ∷ [])) 0x10FFFF (holds tests 5 s) in
    four a b c d (omega arith) (omega arith) (omega arith) (omega arith) (omega arith)
shaped l a (fit {r = q} x (fit {r = r} y (fit {r = p} z (fit {r = o} {rs = rs} u f)))) w s =
    absurd (false≢true (holds (sound l (q ∷ r ∷ p ∷ o ∷ rs)) 0 s))

-- a well-formed character has one of the four shapes
pub shape : (g : Bytes) → well_formed g ≡ true → Shape g
unfolding well_formed
shape [] h = absurd (false≢true h)
shape (a ∷ t) h =
    let w = whole a t h in
    let p = picks sound_row table_3_7 a w.ranges table_sound w.trails in
    shaped p.picked.lead a (fitted w.ranges t w.fitting) p.leads (rw p.trails at p.passes)
