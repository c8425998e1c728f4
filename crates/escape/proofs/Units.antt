-- A value is escaped without a character being decoded: a byte at a time, but for the two-byte controls. Two facts of Table 3-7 carry it:
-- trailing bytes are 80 to BF, and none of these leads a character, so that each is written as it is wherever it stands.
use Rattle.std.specs.Prelude.{if◌then◌else◌}
use Prim.Native.Nat.{ℕ, zero, suc, ◌+◌, ◌*◌, ◌%◌, ◌≤◌, ◌<◌}
use mathlib.Core.Path.{◌≡◌, refl, sym, ap, ◌∙◌}
use mathlib.Core.Bool.{Bool, true, false, ◌&&◌, ◌||◌}
use mathlib.Core.Logic.{◌⊎◌, inl, inr, ⊎_elim}
use mathlib.Core.List.{List, [], ◌∷◌, ◌++◌}
use mathlib.Core.Option.{Option, none, some}
use native.Mathlib.Omega.{arith}
use lib.Dec.{leb, ltb, eqb}
use lib.ListN.{take, drop, get_or, take-append-drop}
use lib.Seq.{take-nil}
use borrow.Author.Tests.{eqb-true, eqb-false, leb-true, ltb-true, ltb-false, ne_eqb, eq-eqb, le-ltb}
use Rattle.format.specs.Bytes.{Bytes, all, texts}
use Rattle.format.specs.Characters.{Range, ◌to◌, within, Row, table_3_7, trail_of, matched, matched_some, trailing, fits, well_formed, code_point, is_control, is_control_code, is_ascii_control}
use Rattle.format.specs.Escaping.{short_form, short_or, unicode_escape, escape_char, escape}
use Rattle.format.proofs.Lists.{bcase, clash, and_left, and_right, and_intro}
use Rattle.format.proofs.Rulesets.{tests}
use Rattle.format.proofs.Characters.Table.{within_low, within_high, within_intro, within_below, picks, whole_row}
use Rattle.format.proofs.Characters.Chars.{chars_nil, chars_cons, chars_whole, chars_ascii, ascii_whole}
use Rattle.format.proofs.Characters.Shapes.{Shape, one, two, three, four, shape, value_two}
use Rattle.escape.specs.Forms.{short_byte, byte_form, form_of, takes_form, written_form}
use Rattle.escape.specs.declared.forms.Form.TheVariants.{Raw, Long}

-- a trailing byte
abbrev is_trail : ℕ → Bool
is_trail c = within c (0x80 to 0xBF)

abbrev in_trail : Range → Bool
in_trail q = leb 0x80 q.first && leb q.last 0xBF

-- the trailing ranges lie in 80 to BF, and the lead range clear of it
abbrev trail_row : Row → Bool
trail_row r = all in_trail r.trail && (leb r.lead.last 0x7F || leb 0xC0 r.lead.first)

table_trails : all trail_row table_3_7 ≡ true
unfolding all
table_trails = refl

matched_trails : (rs : List Range) (t : Bytes) → all in_trail rs ≡ true → all is_trail (take (matched rs t) t) ≡ true
unfolding matched all
matched_trails [] t h = refl
matched_trails (r ∷ rs) [] h = refl
matched_trails (r ∷ rs) (b ∷ t) h = go (within b r) refl (matched_trails rs t (simp tests at h).1)
  where
    inside : within b r ≡ true → is_trail b ≡ true
    inside w = within_intro b (0x80 to 0xBF) (omega (arith, within_low b r w, simp tests at h)) (omega (arith, within_high b r w, simp tests at h))

    go : (w : Bool) → within b r ≡ w → all is_trail (take (matched rs t) t) ≡ true → all is_trail (take (if w then suc (matched rs t) else 0) (b ∷ t)) ≡ true
    go true w e = and_intro (is_trail b) (all is_trail (take (matched rs t) t)) (inside w) e
    go false w e = refl

-- what stands with a lead byte are trailing bytes
trailing_trails : (b : ℕ) (t : Bytes) → all is_trail (take (trailing b t) t) ≡ true
unfolding all
trailing_trails b t = go (trail_of b) refl
  where
    go : (o : Option (List Range)) → trail_of b ≡ o → all is_trail (take (matched_some o t) t) ≡ true
    go none e = refl
    go (some rs) e =
        let p = picks trail_row table_3_7 b rs table_trails e in
        let r = p.picked in
        let q : all in_trail r.trail ≡ true = (simp tests at p.passes).0 in
        matched_trails rs t (rw p.trails at q)

-- a trailing byte leads no character
trail_none : (c : ℕ) → is_trail c ≡ true → trail_of c ≡ none
trail_none c h = go (trail_of c) refl
  where
    low : 0x80 ≤ c
    low = within_low c (0x80 to 0xBF) h

    high : c ≤ 0xBF
    high = within_high c (0x80 to 0xBF) h

    go : (o : Option (List Range)) → trail_of c ≡ o → trail_of c ≡ none
    go none e = e
    go (some rs) e =
        let p = picks trail_row table_3_7 c rs table_trails e in
        let r = p.picked in
        let q : (leb r.lead.last 0x7F || leb 0xC0 r.lead.first) ≡ true = (simp tests at p.passes).1 in
        absurd
        (⊎_elim (λ t. omega (arith, low, within_high c r.lead p.leads, leb-true r.lead.last 0x7F t))
        (λ f. omega (arith, high, within_low c r.lead p.leads, leb-true 0xC0 r.lead.first (rw f at q)))
        (bcase (leb r.lead.last 0x7F)))

pub escape_nil : escape [] ≡ []
unfolding escape texts
escape_nil = rw chars_nil refl

escape_cons : (b : ℕ) (t : Bytes) → escape (b ∷ t) ≡ escape_char (b ∷ take (trailing b t) t) ++ escape (drop (trailing b t) t)
unfolding escape texts
escape_cons b t = ap (texts escape_char) (chars_cons b t)

-- a byte of 128 or more has no short form
short_high : (b : ℕ) → 128 ≤ b → short_form b ≡ none
unfolding short_form
short_high b h =
    rw (
      ne_eqb b 92 (λ e. omega arith),
      ne_eqb b 34 (λ e. omega arith),
      ne_eqb b 8 (λ e. omega arith),
      ne_eqb b 9 (λ e. omega arith),
      ne_eqb b 10 (λ e. omega arith),
      ne_eqb b 13 (λ e. omega arith),
    )
    refl

-- a group of such bytes that is no control is written as it is
char_high : (b : ℕ) (t : Bytes) → 128 ≤ b → is_control (b ∷ t) ≡ false → escape_char (b ∷ t) ≡ b ∷ t
unfolding escape_char
char_high b [] h c = rw (short_high b h, c) refl
char_high b (a ∷ t) h c = rw c refl

-- a trailing byte is no control
trail_free : (c : ℕ) → is_trail c ≡ true → is_control (c ∷ []) ≡ false
unfolding is_control well_formed
trail_free c h = rw (trail_none c h) refl

escape_trail : (c : ℕ) (t : Bytes) → is_trail c ≡ true → escape (c ∷ t) ≡ c ∷ escape t
escape_trail c t h =
    escape_cons c t
    ∙ ap (λ (o : Option (List Range)). escape_char (c ∷ take (matched_some o t) t) ++ escape (drop (matched_some o t) t)) (trail_none c h)
    ∙ ap (λ (g : Bytes). g ++ escape t) (char_high c [] (within_low c (0x80 to 0xBF) h) (trail_free c h))

escape_trails : (s t : Bytes) → all is_trail s ≡ true → escape (s ++ t) ≡ s ++ escape t
unfolding all
escape_trails [] t h = refl
escape_trails (c ∷ s) t h =
    escape_trail c (s ++ t) (and_left (is_trail c) (all is_trail s) h)
    ∙ ap (λ (l : Bytes). c ∷ l) (escape_trails s t (and_right (is_trail c) (all is_trail s) h))

-- a byte of 128 or more that begins no control is written as it is
escape_raw : (b : ℕ) (t : Bytes) → 128 ≤ b → is_control (b ∷ take (trailing b t) t) ≡ false → escape (b ∷ t) ≡ b ∷ escape t
escape_raw b t h c =
    let k = trailing b t in
    escape_cons b t
    ∙ ap (λ (g : Bytes). g ++ escape (drop k t)) (char_high b (take k t) h c)
    ∙ ap (λ (l : Bytes). b ∷ l) (sym (escape_trails (take k t) (drop k t) (trailing_trails b t)) ∙ ap escape (take-append-drop k t))

-- The two-byte controls.
record Control (g : Bytes) : Type 0 where
  code : ℕ
  bytes : g ≡ 0xC2 ∷ code ∷ []
  low : 0x80 ≤ code
  high : code ≤ 0x9F

control_most : (n : ℕ) → is_control_code n ≡ true → n ≤ 0x9F
unfolding is_control_code
control_most n h =
    ⊎_elim (λ t. omega (arith, ltb-true n 0x20 t)) (λ f. within_high n (0x7F to 0x9F) (rw f at h)) (bcase (ltb n 0x20))

shape_control : (g : Bytes) → Shape g → 128 ≤ get_or g 0 0 → code_point g ≤ 0x9F → Control g
shape_control g (one a h) l m = absurd (omega arith)
shape_control g (two a b h i) l m =
    let v = value_two a b (omega arith) i in
    let e : a ≡ 0xC2 = omega arith in
    record { code = b; bytes = cc; low = omega arith; high = omega arith }
shape_control g (three a b c h i j k s) l m = absurd (omega arith)
shape_control g (four a b c d h i j k v) l m = absurd (omega arith)

-- a control that begins with a byte of 128 or more is one of them
control_high : (b : ℕ) (t : Bytes) → 128 ≤ b → is_control (b ∷ t) ≡ true → Control (b ∷ t)
unfolding is_control
control_high b t h c =
    let p = simp tests at c in
    shape_control (b ∷ t) (shape (b ∷ t) p.0) h (control_most (code_point (b ∷ t)) p.1)

-- the first of two bytes is one of the bytes that are taken
take_head : (k c d : ℕ) (t : Bytes) → take k (c ∷ t) ≡ d ∷ [] → c ≡ d
take_head zero c d t h = absurd (let z : ◌≡◌ {A = ℕ} 0 1 = cc in omega arith)
take_head (suc k) c d t h = cc

-- the bytes are a control where they begin with C2 and 80 to 9F, and only there
control_free : (b c : ℕ) (t : Bytes) (k : ℕ) → 128 ≤ b → (eqb b 0xC2 && within c (0x80 to 0x9F)) ≡ false → is_control (b ∷ take k (c ∷ t)) ≡ false
control_free b c t k h f = ⊎_elim (λ i. clash (both (control_high b (take k (c ∷ t)) h i)) f) (λ i. i) (bcase (is_control (b ∷ take k (c ∷ t))))
  where
    both : Control (b ∷ take k (c ∷ t)) → (eqb b 0xC2 && within c (0x80 to 0x9F)) ≡ true
    both q =
        let d = q.code in
        let e : b ∷ take k (c ∷ t) ≡ 0xC2 ∷ d ∷ [] = q.bytes in
        let i : b ≡ 0xC2 = cc in
        let j : take k (c ∷ t) ≡ d ∷ [] = cc in
        let m : c ≡ d = take_head k c d t j in
        and_intro (eqb b 0xC2) (within c (0x80 to 0x9F)) (eq-eqb b 0xC2 i)
        (within_intro c (0x80 to 0x9F) (omega (arith, q.low)) (omega (arith, q.high)))

alone_free : (b k : ℕ) → 128 ≤ b → is_control (b ∷ take k []) ≡ false
alone_free b k h = ⊎_elim (λ i. absurd (none_left (control_high b (take k []) h i))) (λ i. i) (bcase (is_control (b ∷ take k [])))
  where
    none_left : Control (b ∷ take k []) → ⊥
    none_left q =
        let d = q.code in
        let e : b ∷ take k [] ≡ 0xC2 ∷ d ∷ [] = q.bytes in
        let n : take k [] ≡ [] = take-nil {A = ℕ} k in
        let z : ◌≡◌ {A = ℕ} 0 1 = cc in
        omega arith

-- a two-byte control is written by its second byte
escape_upper : (c : ℕ) (t : Bytes) → 0x80 ≤ c → c ≤ 0x9F → escape (0xC2 ∷ c ∷ t) ≡ unicode_escape c ++ escape t
unfolding escape texts escape_char is_control is_control_code code_point fits
escape_upper c t h i =
    let w : well_formed (0xC2 ∷ c ∷ []) ≡ true =
    whole_row 1 0xC2 (c ∷ []) (omega arith) (omega arith) (omega arith) (rw (within_intro c (0x80 to 0xBF) h (omega arith)) refl) in
    let v : 2 * 64 + c % 64 ≡ c = omega arith in
    ap (texts escape_char) (chars_whole (0xC2 ∷ c ∷ []) t w)
    ∙ rw (w, v, le-ltb c 0x20 (omega arith), within_intro c (0x7F to 0x9F) (omega arith) i) refl

-- no other byte is taken together with the next
pub byte_takes : (b : ℕ) → takes_form (byte_form b) ≡ 1
unfolding byte_form
byte_takes b = go (short_form b) (is_ascii_control b) refl
  where
    long : (a : Bool) → takes_form (if a then Long b else Raw b) ≡ 1
    long true = refl
    long false = refl

    go : (o : Option ℕ) (a : Bool) → is_ascii_control b ≡ a → takes_form (short_byte o b) ≡ 1
    go none a e = long (is_ascii_control b)
    go (some c) a e = refl

byte_raw : (b : ℕ) → 128 ≤ b → byte_form b ≡ Raw b
unfolding byte_form is_ascii_control
byte_raw b h = rw (short_high b h, le-ltb b 0x20 (omega arith), ne_eqb b 0x7F (λ e. omega arith)) refl

control_ascii : (b : ℕ) → b < 128 → is_control (b ∷ []) ≡ is_ascii_control b
unfolding is_control is_control_code is_ascii_control code_point
control_ascii b h = rw (ascii_whole b h) (ap (λ (x : Bool). ltb b 0x20 || x) (last (bcase (eqb b 0x7F))))
  where
    last : (eqb b 0x7F ≡ true) ⊎ (eqb b 0x7F ≡ false) → within b (0x7F to 0x9F) ≡ eqb b 0x7F
    last (inl e) = within_intro b (0x7F to 0x9F) (omega (arith, eqb-true b 0x7F e)) (omega arith) ∙ sym e
    last (inr e) = within_below b (0x7F to 0x9F) (omega (arith, h, eqb-false b 0x7F e)) ∙ sym e

-- an ASCII byte is written as its form says
char_ascii : (b : ℕ) → b < 128 → escape_char (b ∷ []) ≡ written_form (byte_form b)
unfolding escape_char byte_form code_point
char_ascii b h = go (short_form b)
  where
    long : (a : Bool) → (if a then unicode_escape b else b ∷ []) ≡ written_form (if a then Long b else Raw b)
    long true = refl
    long false = refl

    go : (o : Option ℕ) → short_or o (b ∷ []) ≡ written_form (short_byte o b)
    go none = ap (λ (a : Bool). if a then unicode_escape b else b ∷ []) (control_ascii b h) ∙ long (is_ascii_control b)
    go (some c) = refl

escape_byte : (b : ℕ) (t : Bytes) → b < 128 → escape (b ∷ t) ≡ written_form (byte_form b) ++ escape t
unfolding escape texts
escape_byte b t h = ap (texts escape_char) (chars_ascii b t h) ∙ ap (λ (g : Bytes). g ++ escape t) (char_ascii b h)

-- what is to be shown of a text
abbrev Unit : Bytes → Type 0
Unit s = escape s ≡ written_form (form_of s) ++ escape (drop (takes_form (form_of s)) s)

by_byte : (b : ℕ) (t : Bytes) → form_of (b ∷ t) ≡ byte_form b → escape (b ∷ t) ≡ written_form (byte_form b) ++ escape t → Unit (b ∷ t)
by_byte b t f e = rw (f, byte_takes b) e

-- a byte that is not C2 stands by itself
pub form_byte : (b : ℕ) (t : Bytes) → eqb b 0xC2 ≡ false → form_of (b ∷ t) ≡ byte_form b
unfolding form_of
form_byte b [] h = refl
form_byte b (c ∷ t) h = rw h refl

high_unit : (b : ℕ) (t : Bytes) → 128 ≤ b → Unit (b ∷ t)
unfolding form_of
high_unit b [] h = by_byte b [] refl (rw (byte_raw b h) (escape_raw b [] h (alone_free b (trailing b []) h)))
high_unit b (c ∷ t) h = ⊎_elim upper raw (bcase (eqb b 0xC2 && within c (0x80 to 0x9F)))
  where
    upper : (eqb b 0xC2 && within c (0x80 to 0x9F)) ≡ true → Unit (b ∷ c ∷ t)
    upper e =
        let w = and_right (eqb b 0xC2) (within c (0x80 to 0x9F)) e in
        rw (e, eqb-true b 0xC2 (and_left (eqb b 0xC2) (within c (0x80 to 0x9F)) e))
        (escape_upper c t (within_low c (0x80 to 0x9F) w) (within_high c (0x80 to 0x9F) w))

    raw : (eqb b 0xC2 && within c (0x80 to 0x9F)) ≡ false → Unit (b ∷ c ∷ t)
    raw e = by_byte b (c ∷ t) (rw e refl) (rw (byte_raw b h) (escape_raw b (c ∷ t) h (control_free b c t (trailing b (c ∷ t)) h e)))

-- a text is written as its first form and then the rest
pub escape_unit : (b : ℕ) (t : Bytes) → Unit (b ∷ t)
escape_unit b t =
    ⊎_elim
    (λ h. by_byte b t (form_byte b t (ne_eqb b 0xC2 (λ e. omega (arith, ltb-true b 128 h)))) (escape_byte b t (ltb-true b 128 h)))
    (λ h. high_unit b t (ltb-false b 128 h))
    (bcase (ltb b 128))
