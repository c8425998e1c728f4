-- Document 01, "Characters": the well-formed characters are the encodings of the scalar values, and a text is UTF-8 exactly when it
-- is the join of such encodings. Shapes.antt gives the bounds; the rest is arithmetic of digits by 64. Assumes nothing.
use Prim.Native.Nat.{ℕ, ◌+◌, ◌/◌, ◌%◌, ◌≤◌, ◌<◌}
use mathlib.Core.Path.{◌≡◌, refl, sym, ap, ◌∙◌}
use mathlib.Core.Bool.{true}
use mathlib.Core.Logic.{◌⊎◌, inl, inr, ⊎_elim, ◌↔◌}
use mathlib.Core.List.{List, [], ◌∷◌}
use native.Mathlib.Omega.{arith}
use borrow.Author.Tests.{lt-ltb, le-ltb}
use Rattle.format.specs.Bytes.{Bytes, all, texts}
use Rattle.format.specs.Characters.{Range, ◌to◌, within, fits, well_formed, chars, is_utf8, flat, code_point, is_scalar, encoding}
use Rattle.format.proofs.Lists.{bcase, below, all_head, all_tail, all_cons, all_map}
use Rattle.format.proofs.Characters.Table.{within_low, within_high, within_intro, row_of, whole_row}
use Rattle.format.proofs.Characters.Chars.{flat_chars, ascii_whole, utf8_whole, utf8_texts}
use Rattle.format.proofs.Characters.Shapes.{Between, Shape, one, two, three, four, shape, value_two, value_three, value_four, scalar_low, scalar_high}

-- the encoding by the size of the number
pub encoding_one : (n : ℕ) → n < 0x80 → encoding n ≡ n ∷ []
unfolding encoding
encoding_one n h = rw (lt-ltb n 0x80 h) refl

pub encoding_two : (n : ℕ) → 0x80 ≤ n → n < 0x800 → encoding n ≡ (0xC0 + n / 64) ∷ (0x80 + n % 64) ∷ []
unfolding encoding
encoding_two n h i = rw (le-ltb n 0x80 h, lt-ltb n 0x800 i) refl

pub encoding_three : (n : ℕ) → 0x800 ≤ n → n < 0x10000 → encoding n ≡ (0xE0 + n / 4096) ∷ (0x80 + n / 64 % 64) ∷ (0x80 + n % 64) ∷ []
unfolding encoding
encoding_three n h i = rw (le-ltb n 0x80 (omega arith), le-ltb n 0x800 h, lt-ltb n 0x10000 i) refl

pub encoding_four : (n : ℕ) → 0x10000 ≤ n → encoding n ≡ (0xF0 + n / 262144) ∷ (0x80 + n / 4096 % 64) ∷ (0x80 + n / 64 % 64) ∷ (0x80 + n % 64) ∷ []
unfolding encoding
encoding_four n h = rw (le-ltb n 0x80 (omega arith), le-ltb n 0x800 (omega arith), le-ltb n 0x10000 h) refl

scalar_shape : (g : Bytes) → Shape g → is_scalar (code_point g) ≡ true
unfolding code_point
scalar_shape g (one a h) = scalar_low a (omega arith)
scalar_shape g (two a b h i) = scalar_low (code_point (a ∷ b ∷ [])) (omega arith)
scalar_shape g (three a b c h i j k s) = s
scalar_shape g (four a b c d h i j k v) = scalar_high (code_point (a ∷ b ∷ c ∷ d ∷ [])) (omega arith) (omega arith)

pub whole_scalar : (g : Bytes) → well_formed g ≡ true → is_scalar (code_point g) ≡ true
whole_scalar g h = scalar_shape g (shape g h)

encoding_shape : (g : Bytes) → Shape g → encoding (code_point g) ≡ g
encoding_shape g (one a h) = unfold code_point in encoding_one a (omega arith)
encoding_shape g (two a b h i) =
    let n = code_point (a ∷ b ∷ []) in
    let v = value_two a b (omega arith) i in
    let p : 0xC0 + n / 64 ≡ a = omega arith in
    let q : 0x80 + n % 64 ≡ b = omega arith in
    encoding_two n (omega arith) (omega arith) ∙ cc
encoding_shape g (three a b c h i j k s) =
    let n = code_point (a ∷ b ∷ c ∷ []) in
    let v = value_three a b c h i j in
    let p : 0xE0 + n / 4096 ≡ a = omega arith in
    let q : 0x80 + n / 64 % 64 ≡ b = omega arith in
    let r : 0x80 + n % 64 ≡ c = omega arith in
    encoding_three n k (omega arith) ∙ cc
encoding_shape g (four a b c d h i j k m) =
    let n = code_point (a ∷ b ∷ c ∷ d ∷ []) in
    let v = value_four a b c d (omega arith) i j k in
    let p : 0xF0 + n / 262144 ≡ a = omega arith in
    let q : 0x80 + n / 4096 % 64 ≡ b = omega arith in
    let r : 0x80 + n / 64 % 64 ≡ c = omega arith in
    let t : 0x80 + n % 64 ≡ d = omega arith in
    encoding_four n m.0 ∙ cc

pub encoding_code_point : (g : Bytes) → well_formed g ≡ true → encoding (code_point g) ≡ g
encoding_code_point g h = encoding_shape g (shape g h)

scalar_ends : (n : ℕ) → is_scalar n ≡ true → (n ≤ 0xD7FF) ⊎ Between 0xE000 n 0x10FFFF
unfolding is_scalar
scalar_ends n h =
    ⊎_elim
    (λ t. inl (within_high n (0 to 0xD7FF) t))
    (λ f. let w : within n (0xE000 to 0x10FFFF) ≡ true = rw f at h in inr (within_low n (0xE000 to 0x10FFFF) w, within_high n (0xE000 to 0x10FFFF) w))
    (bcase (within n (0 to 0xD7FF)))

scalar_most : (n : ℕ) → is_scalar n ≡ true → n ≤ 0x10FFFF
scalar_most n h = ⊎_elim (λ l. omega arith) (λ b. b.1) (scalar_ends n h)

-- what holds of each of the four forms holds of the encoding
by_size :
    (P : Bytes → Type 0) (n : ℕ)
    → (n < 0x80 → P (n ∷ []))
    → (0x80 ≤ n → n < 0x800 → P ((0xC0 + n / 64) ∷ (0x80 + n % 64) ∷ []))
    → (0x800 ≤ n → n < 0x10000 → P ((0xE0 + n / 4096) ∷ (0x80 + n / 64 % 64) ∷ (0x80 + n % 64) ∷ []))
    → (0x10000 ≤ n → P ((0xF0 + n / 262144) ∷ (0x80 + n / 4096 % 64) ∷ (0x80 + n / 64 % 64) ∷ (0x80 + n % 64) ∷ []))
    → P (encoding n)
by_size P n e f g k =
    ⊎_elim
    (λ h. rw (encoding_one n h) (e h))
    (λ h.
    ⊎_elim
    (λ i. rw (encoding_two n h i) (f h i))
    (λ i. ⊎_elim (λ j. rw (encoding_three n i j) (g i j)) (λ j. rw (encoding_four n j) (k j)) (below n 0x10000))
    (below n 0x800))
    (below n 0x80)

pub code_point_encoding : (n : ℕ) → is_scalar n ≡ true → code_point (encoding n) ≡ n
code_point_encoding n s =
    let m = scalar_most n s in
    by_size (λ g. code_point g ≡ n) n
    (λ h. unfold code_point in refl)
    (λ h i. omega (arith, value_two (0xC0 + n / 64) (0x80 + n % 64) (omega arith) (omega arith)))
    (λ h i. omega (arith, value_three (0xE0 + n / 4096) (0x80 + n / 64 % 64) (0x80 + n % 64) (omega arith) (omega arith) (omega arith)))
    (λ h.
    omega (
      arith,
      value_four (0xF0 + n / 262144) (0x80 + n / 4096 % 64) (0x80 + n / 64 % 64) (0x80 + n % 64) (omega arith) (omega arith) (omega arith)
          (omega arith),
    ))

-- a last digit by 64 fits the range of a last byte
digit : (n : ℕ) → within (0x80 + n % 64) (0x80 to 0xBF) ≡ true
digit n = within_intro (0x80 + n % 64) (0x80 to 0xBF) (omega arith) (omega arith)

-- Row k takes the number, where its second range, q, takes the second byte.
whole_three : (k n : ℕ) (q : Range) → k < 9 → (row_of k).trail ≡ q ∷ (0x80 to 0xBF) ∷ [] → Between (row_of k).lead.first (0xE0 + n / 4096) (row_of k).lead.last
    → Between q.first (0x80 + n / 64 % 64) q.last → well_formed ((0xE0 + n / 4096) ∷ (0x80 + n / 64 % 64) ∷ (0x80 + n % 64) ∷ []) ≡ true
unfolding fits
whole_three k n q i e h j =
    whole_row k (0xE0 + n / 4096) ((0x80 + n / 64 % 64) ∷ (0x80 + n % 64) ∷ []) i h.0 h.1
    (rw (e, within_intro (0x80 + n / 64 % 64) q j.0 j.1, digit n) refl)

whole_four : (k n : ℕ) (q : Range) → k < 9 → (row_of k).trail ≡ q ∷ (0x80 to 0xBF) ∷ (0x80 to 0xBF) ∷ [] → Between (row_of k).lead.first (0xF0 + n / 262144) (row_of k).lead.last
    → Between q.first (0x80 + n / 4096 % 64) q.last → well_formed ((0xF0 + n / 262144) ∷ (0x80 + n / 4096 % 64) ∷ (0x80 + n / 64 % 64) ∷ (0x80 + n % 64) ∷ []) ≡ true
unfolding fits
whole_four k n q i e h j =
    whole_row k (0xF0 + n / 262144) ((0x80 + n / 4096 % 64) ∷ (0x80 + n / 64 % 64) ∷ (0x80 + n % 64) ∷ []) i h.0 h.1
    (rw (e, within_intro (0x80 + n / 4096 % 64) q j.0 j.1, digit (n / 64), digit n) refl)

pub encoding_whole : (n : ℕ) → is_scalar n ≡ true → well_formed (encoding n) ≡ true
unfolding fits
encoding_whole n s =
    let most = scalar_most n s in
    by_size (λ g. well_formed g ≡ true) n
    (λ h. ascii_whole n h)
    (λ h i. whole_row 1 (0xC0 + n / 64) ((0x80 + n % 64) ∷ []) (omega arith) (omega arith) (omega arith) (rw (digit n) refl))
    (λ h i.
    ⊎_elim
    (λ j. whole_three 2 n (0xA0 to 0xBF) (omega arith) refl (omega arith) (omega arith))
    (λ j.
    ⊎_elim
    (λ m. whole_three 3 n (0x80 to 0xBF) (omega arith) refl (omega arith) (omega arith))
    (λ m.
    ⊎_elim
    (λ l. whole_three 4 n (0x80 to 0x9F) (omega arith) refl (omega arith) (omega arith))
    (λ l. whole_three 5 n (0x80 to 0xBF) (omega arith) refl (omega arith) (omega arith))
    (scalar_ends n s))
    (below n 0xD000))
    (below n 0x1000))
    (λ h.
    ⊎_elim
    (λ j. whole_four 6 n (0x90 to 0xBF) (omega arith) refl (omega arith) (omega arith))
    (λ j.
    ⊎_elim
    (λ m. whole_four 7 n (0x80 to 0xBF) (omega arith) refl (omega arith) (omega arith))
    (λ m. whole_four 8 n (0x80 to 0x8F) (omega arith) refl (omega arith) (omega arith))
    (below n 0x100000))
    (below n 0x40000))

-- characters as the encodings of their code points
scalars : (gs : List Bytes) → all well_formed gs ≡ true → (ns : List ℕ) × (all is_scalar ns ≡ true) × (flat gs ≡ texts encoding ns)
unfolding all texts
scalars [] h = ([], refl, refl)
scalars (g ∷ gs) h =
    let r = scalars gs (all_tail well_formed g gs h) in
    let w = all_head well_formed g gs h in
    (code_point g ∷ r.0, all_cons is_scalar (code_point g) r.0 (whole_scalar g w) r.1, rw (encoding_code_point g w, r.2) refl)

-- a text is UTF-8 exactly when it is the join of encodings of scalar values
pub utf8_iff : (s : Bytes) → (is_utf8 s ≡ true) ↔ ((ns : List ℕ) × (all is_scalar ns ≡ true) × (s ≡ texts encoding ns))
unfolding is_utf8
utf8_iff s = (
  λ h. let r = scalars (chars s) h in (r.0, r.1, sym (flat_chars s) ∙ r.2),
  λ r. ap is_utf8 r.2 ∙ utf8_texts encoding r.0 (all_map is_scalar (λ n. is_utf8 (encoding n)) (λ n h. utf8_whole (encoding n) (encoding_whole n h)) r.0 r.1),
)
