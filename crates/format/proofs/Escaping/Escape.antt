-- A character as `escape` writes it reads back in either manner, is UTF-8, has no control byte, and has at most six bytes for one. A text reads back, and has
-- at most six bytes for one.
-- One fact about each character carries it: written bare it is no control, else it is written in visible ASCII that reads as the character.
use Rattle.std.specs.Prelude.{if◌then◌else◌}
use Prim.Native.Nat.{ℕ, suc, ◌+◌, ◌*◌, ◌/◌, ◌%◌, ◌≤◌, ◌<◌}
use mathlib.Core.Path.{◌≡◌, refl, sym, ap, ◌∙◌}
use mathlib.Core.Bool.{Bool, true, false, ◌&&◌, ◌||◌, and-false}
use mathlib.Core.Logic.{◌⊎◌, inl, inr, ⊎_elim}
use mathlib.Core.List.{List, [], ◌∷◌, ◌++◌}
use mathlib.Core.Option.{Option, none, some}
use native.Mathlib.Omega.{arith}
use lib.Dec.{leb, ltb, eqb}
use lib.ListN.{length, length-append}
use borrow.Author.Tests.{eqb-true, leb-true, ltb-true, ltb-false, ne_eqb, le-leb, lt-leb, lt-ltb}
use Rattle.format.specs.Bytes.{Bytes, all, any, texts, backslash, plus}
use Rattle.format.specs.Characters.{chars, trail_in, fits, well_formed, is_utf8, flat, within, ◌to◌, code_point, encoding, is_scalar, is_white, is_control, is_control_code, is_lost}
use Rattle.format.specs.Escaping.{digit, unicode_escape, short_form, long_form, short_or, escape_char, escape, digit_value, first_digit, four_digits, scalar_escape, long_escape, one_byte, short_escape, escape_at, in_front, unescape_from, unescape_by}
use Rattle.format.specs.declared.Manner.{Manner}
use Rattle.format.specs.declared.Manner.TheVariants.{Source, Rfc}
use Rattle.format.proofs.Lists.{bcase, clash, and_left, and_right, and_intro, or_false_left, all_head, all_tail, all_map}
use Rattle.format.proofs.Characters.Chars.{flat_chars, utf8_whole, utf8_ascii_text, whole_high}
use Rattle.format.proofs.Escaping.Unescape.{branch, nothing, plain, plain_read, whole_plain}
use Rattle.format.proofs.Characters.Scalars.{encoding_code_point, whole_scalar}

-- ASCII that is neither white space nor a control
abbrev pub visible : ℕ → Bool
visible c = leb 33 c && leb c 126

visible_intro : (c : ℕ) → 33 ≤ c → c ≤ 126 → visible c ≡ true
visible_intro c h k = and_intro (leb 33 c) (leb c 126) (le-leb 33 c h) (le-leb c 126 k)

-- such a text is UTF-8, and none of its bytes is a control
pub visible_utf8 : (s : Bytes) → all visible s ≡ true → is_utf8 s ≡ true
visible_utf8 s h = utf8_ascii_text s (all_map visible (λ b. ltb b 128) (λ b v. lt-ltb b 128 (omega (arith, leb-true b 126 (and_right (leb 33 b) (leb b 126) v)))) s h)

pub visible_printable : (s : Bytes) → all visible s ≡ true → all (leb 32) s ≡ true
visible_printable s h = all_map visible (leb 32) (λ b v. le-leb 32 b (omega (arith, leb-true 33 b (and_left (leb 33 b) (leb b 126) v)))) s h

-- What holds of a character that has a short form.
record Short (b c : ℕ) : Type 0 where
  reads : (r : Manner) (s : Bytes) → escape_at r (c ∷ s) ≡ one_byte b
  shown : visible c ≡ true
  kept : is_lost (b ∷ []) ≡ false

short_at : (k m : ℕ) → Short k m → (b c : ℕ) → eqb b k ≡ true → some m ≡ some c → Short b c
short_at k m s b c h e =
    let i : b ≡ k = eqb-true b k h in
    let j : m ≡ c = cc in
    rw (i, ← j) s

short : (b c : ℕ) → short_form b ≡ some c → Short b c
unfolding short_form escape_at short_escape long_escape is_lost is_white is_control is_control_code well_formed trail_in fits code_point any
short b c h =
    branch (eqb b 92) _ _ c (short_at 92 92 (record { reads = λ r s. refl; shown = refl; kept = refl }) b c)
    (branch (eqb b 34) _ _ c (short_at 34 34 (record { reads = λ r s. refl; shown = refl; kept = refl }) b c)
    (branch (eqb b 8) _ _ c (short_at 8 98 (record { reads = λ r s. refl; shown = refl; kept = refl }) b c)
    (branch (eqb b 9) _ _ c (short_at 9 116 (record { reads = λ r s. refl; shown = refl; kept = refl }) b c)
    (branch (eqb b 10) _ _ c (short_at 10 110 (record { reads = λ r s. refl; shown = refl; kept = refl }) b c)
    (branch (eqb b 13) _ _ c (short_at 13 114 (record { reads = λ r s. refl; shown = refl; kept = refl }) b c) (nothing c))))))
    h

long_plain : (b : ℕ) → short_form b ≡ none → eqb b backslash ≡ false
unfolding short_form
long_plain b h = ⊎_elim (λ t. nothing 92 (sym (rw t at h))) (λ t. t) (bcase (eqb b 92))

-- a digit is 0 to 9 or a to f
digit_number : (n : ℕ) → n < 16 → ((digit n ≡ 48 + n) × (n < 10)) ⊎ ((digit n ≡ 87 + n) × (10 ≤ n))
unfolding digit
digit_number n l = ⊎_elim (λ t. inl (rw t refl, ltb-true n 10 t)) (λ t. inr (rw t refl, ltb-false n 10 t)) (bcase (ltb n 10))

digit_visible : (n : ℕ) → n < 16 → visible (digit n) ≡ true
digit_visible n l = ⊎_elim (λ e. visible_intro (digit n) (omega arith) (omega arith)) (λ e. visible_intro (digit n) (omega arith) (omega arith)) (digit_number n l)

digit_no_plus : (n : ℕ) → n < 16 → eqb (digit n) plus ≡ false
digit_no_plus n l = ne_eqb (digit n) plus (λ e. ⊎_elim (λ h. omega arith) (λ h. omega arith) (digit_number n l))

digit_value_lem : (n : ℕ) → n < 16 → digit_value (digit n) ≡ some n
unfolding digit_value
digit_value_lem n l = ⊎_elim low high (digit_number n l)
  where
    low : (digit n ≡ 48 + n) × (n < 10) → digit_value (digit n) ≡ some n
    low e = rw (le-leb 48 (digit n) (omega arith), le-leb (digit n) 57 (omega arith)) (ap some (omega arith))

    high : (digit n ≡ 87 + n) × (10 ≤ n) → digit_value (digit n) ≡ some n
    high e =
        rw
        (le-leb 48 (digit n) (omega arith), lt-leb (digit n) 57 (omega arith), le-leb 97 (digit n) (omega arith), le-leb (digit n) 102 (omega arith))
        (ap some (omega arith))

four_number : (n : ℕ) → n < 65536 → (((n / 4096 % 16) * 16 + n / 256 % 16) * 16 + n / 16 % 16) * 16 + n % 16 ≡ n
four_number n l =
    let a : n / 16 / 16 ≡ n / 256 = omega arith in
    let b : n / 256 / 16 ≡ n / 4096 = omega arith in
    let c : n / 4096 % 16 ≡ n / 4096 = omega arith in
    let d : n / 16 % 16 + 16 * (n / 256) ≡ n / 16 = omega arith in
    let e : n / 256 % 16 + 16 * (n / 4096) ≡ n / 256 = omega arith in
    omega arith

-- no digit that is written is a plus, so both manners read the first one alike
first_read : (r : Manner) (n : ℕ) → n < 16 → first_digit r (digit n) ≡ some n
unfolding first_digit
first_read Source n l = rw (digit_no_plus n l) (digit_value_lem n l)
first_read Rfc n l = digit_value_lem n l

four_read : (r : Manner) (n : ℕ) → n < 65536 → four_digits r (digit (n / 4096 % 16)) (digit (n / 256 % 16)) (digit (n / 16 % 16)) (digit (n % 16)) ≡ some n
unfolding four_digits
four_read r n l =
    rw (
      first_read r (n / 4096 % 16) (omega arith),
      digit_value_lem (n / 256 % 16) (omega arith),
      digit_value_lem (n / 16 % 16) (omega arith),
      digit_value_lem (n % 16) (omega arith),
    )
    (ap some (four_number n l))

unicode_read : (r : Manner) (n : ℕ) (s : Bytes) → n < 65536 → is_scalar n ≡ true → unescape_by r (unicode_escape n ++ s) ≡ in_front (encoding n) (unescape_by r s)
unfolding unicode_escape unescape_from escape_at long_escape scalar_escape
unicode_read r n s l h = rw (four_read r n l, h) refl

-- a character that is written as `\u` reads back
pub unicode_char_read : (r : Manner) (g s : Bytes) → well_formed g ≡ true → code_point g < 65536
    → unescape_by r (unicode_escape (code_point g) ++ s) ≡ in_front g (unescape_by r s)
unicode_char_read r g s w l =
    unicode_read r (code_point g) s l (whole_scalar g w) ∙ ap (λ (c : Bytes). in_front c (unescape_by r s)) (encoding_code_point g w)

pub unicode_visible : (n : ℕ) → all visible (unicode_escape n) ≡ true
unfolding unicode_escape all
unicode_visible n =
    rw
    (digit_visible (n / 4096 % 16) (omega arith), digit_visible (n / 256 % 16) (omega arith), digit_visible (n / 16 % 16) (omega arith), digit_visible (n % 16) (omega arith)) refl

control_code : (g : Bytes) → is_control g ≡ true → code_point g < 65536
unfolding is_control is_control_code
control_code g h =
    let k = and_right (well_formed g) (ltb (code_point g) 0x20 || within (code_point g) (0x7F to 0x9F)) h in
    ⊎_elim (λ t. omega (arith, ltb-true (code_point g) 0x20 t))
    (λ t. omega (arith, leb-true (code_point g) 0x9F (and_right (leb 0x7F (code_point g)) (leb (code_point g) 0x9F) (rw t at k))))
    (bcase (ltb (code_point g) 0x20))

control_kept : (g : Bytes) → is_control g ≡ true → is_lost g ≡ false
unfolding is_lost
control_kept g h = rw h (and-false (is_white g))

-- How a character is written: bare, or coded in visible ASCII that reads as the character.
pub data Written (g : Bytes) : Type 0 where
  bare : escape_char g ≡ g → is_control g ≡ false → plain g ≡ true → Written g
  coded :
      (b : ℕ) (t : Bytes)
      → escape_char g ≡ b ∷ t
      → all visible (b ∷ t) ≡ true
      → is_lost g ≡ false
      → ((r : Manner) (s : Bytes) → unescape_by r (b ∷ t ++ s) ≡ in_front g (unescape_by r s))
      → Written g

long_written : (g : Bytes) → well_formed g ≡ true → plain g ≡ true → escape_char g ≡ long_form g → Written g
unfolding unicode_escape
long_written g w p e = ⊎_elim control (λ t. bare (e ∙ rw t refl) t p) (bcase (is_control g))
  where
    control : is_control g ≡ true → Written g
    control t =
        coded backslash _ (e ∙ ap (λ (c : Bool). if c then unicode_escape (code_point g) else g) t) (unicode_visible (code_point g)) (control_kept g t)
        (λ r s. unicode_char_read r g s w (control_code g t))

short_written : (b : ℕ) (o : Option ℕ) → short_form b ≡ o → well_formed (b ∷ []) ≡ true → Written (b ∷ [])
unfolding escape_char all unescape_from
short_written b none e w = long_written (b ∷ []) w (whole_plain b [] w (long_plain b e)) (rw e refl)
short_written b (some c) e w =
    let s = short b c e in
    coded backslash (c ∷ []) (rw e refl) (rw s.shown refl) s.kept (λ r t. rw (s.reads r t) refl)

-- every character is written in one of the two ways
pub written : (g : Bytes) → well_formed g ≡ true → Written g
unfolding escape_char well_formed
written [] w = clash w refl
written (b ∷ []) w = short_written b (short_form b) refl w
written (b ∷ c ∷ t) w =
    long_written (b ∷ c ∷ t) w
    (whole_plain b (c ∷ t) w (ne_eqb b backslash (λ e. omega (arith, leb-true 128 b (all_head (leb 128) b (c ∷ t) (whole_high b c t w)))))) refl

char_read : (r : Manner) (g s : Bytes) → Written g → unescape_by r (escape_char g ++ s) ≡ in_front g (unescape_by r s)
char_read r g s (bare e c p) = rw e (plain_read r g s p)
char_read r g s (coded b t e a k q) = rw e (q r s)

-- one character that is written reads back
pub escape_char_read : (r : Manner) (g s : Bytes) → well_formed g ≡ true → unescape_by r (escape_char g ++ s) ≡ in_front g (unescape_by r s)
escape_char_read r g s w = char_read r g s (written g w)

-- characters that are written read back
unescape_texts : (r : Manner) (gs : List Bytes) → all well_formed gs ≡ true → unescape_by r (texts escape_char gs) ≡ some (flat gs)
unfolding texts unescape_from
unescape_texts r [] w = refl
unescape_texts r (g ∷ gs) w =
    escape_char_read r g (texts escape_char gs) (all_head well_formed g gs w) ∙ ap (in_front g) (unescape_texts r gs (all_tail well_formed g gs w))

-- what is written reads back
pub unescape_escape : (r : Manner) (v : Bytes) → is_utf8 v ≡ true → unescape_by r (escape v) ≡ some v
unfolding escape is_utf8
unescape_escape r v u = unescape_texts r (chars v) u ∙ ap some (flat_chars v)

char_utf8 : (g : Bytes) → well_formed g ≡ true → Written g → is_utf8 (escape_char g) ≡ true
char_utf8 g w (bare e c p) = rw e (utf8_whole g w)
char_utf8 g w (coded b t e a k r) = rw e (visible_utf8 (b ∷ t) a)

pub escape_char_utf8 : (g : Bytes) → well_formed g ≡ true → is_utf8 (escape_char g) ≡ true
escape_char_utf8 g w = char_utf8 g w (written g w)

-- a character that is no control has no byte below 32
printable : (g : Bytes) → well_formed g ≡ true → is_control g ≡ false → all (leb 32) g ≡ true
unfolding is_control is_control_code code_point all
printable [] w c = refl
printable (b ∷ []) w c =
    let k : (ltb b 0x20 || within b (0x7F to 0x9F)) ≡ false = rw w at c in
    and_intro (leb 32 b) true (le-leb 32 b (ltb-false b 0x20 (or_false_left (ltb b 0x20) (within b (0x7F to 0x9F)) k))) refl
printable (a ∷ b ∷ t) w c = all_map (leb 128) (leb 32) (λ x h. le-leb 32 x (omega (arith, leb-true 128 x h))) (a ∷ b ∷ t) (whole_high a b t w)

char_printable : (g : Bytes) → well_formed g ≡ true → Written g → all (leb 32) (escape_char g) ≡ true
char_printable g w (bare e c p) = rw e (printable g w c)
char_printable g w (coded b t e a k r) = rw e (visible_printable (b ∷ t) a)

pub escape_char_printable : (g : Bytes) → well_formed g ≡ true → all (leb 32) (escape_char g) ≡ true
escape_char_printable g w = char_printable g w (written g w)

long_length : (b : ℕ) (t : Bytes) → length (long_form (b ∷ t)) ≤ 6 * suc (length t)
unfolding unicode_escape
long_length b t = ⊎_elim (λ c. rw c (omega arith)) (λ c. rw c (omega arith)) (bcase (is_control (b ∷ t)))

short_length : (b : ℕ) (o : Option ℕ) → length (short_or o (b ∷ [])) ≤ 6
short_length b none = omega (arith, long_length b [])
short_length b (some c) = omega arith

pub escape_char_length : (g : Bytes) → length (escape_char g) ≤ 6 * length g
unfolding escape_char
escape_char_length [] = omega arith
escape_char_length (b ∷ []) = omega (arith, short_length b (short_form b))
escape_char_length (b ∷ c ∷ t) = long_length b (c ∷ t)

texts_length : (gs : List Bytes) → length (texts escape_char gs) ≤ 6 * length (flat gs)
unfolding texts
texts_length [] = omega arith
texts_length (g ∷ gs) =
    omega (arith, escape_char_length g, texts_length gs, length-append g (flat gs), length-append (escape_char g) (texts escape_char gs))

-- six bytes at most for one
pub escape_length : (v : Bytes) → length (escape v) ≤ 6 * length v
unfolding escape
escape_length v = omega (arith, texts_length (chars v), ap length (flat_chars v))
