-- White space, control characters and code points as the code tests them. That a byte alone is white space is one test that
-- computes over the 128 bytes; that white space has at most three bytes is one that computes over the 25 numbers. Assumes nothing.
use Prim.Native.Nat.{ℕ, zero, suc, ◌+◌, ◌-◌, ◌*◌, ◌%◌, ◌≤◌, ◌<◌}
use mathlib.Core.Path.{◌≡◌, refl, sym, ap, ◌∙◌}
use mathlib.Core.Bool.{Bool, true, false, not, ◌&&◌, ◌||◌, false≢true, and-false, and-true, or-true, or-false}
use mathlib.Core.Logic.{◌⊎◌, inl, inr, ⊎_elim}
use mathlib.Core.List.{[], ◌∷◌, append-nil}
use native.Mathlib.Omega.{arith}
use lib.Dec.{leb, ltb, eqb}
use lib.ListN.{length, take, drop, get_or, length-take}
use lib.Seq.{take-length}
use borrow.Author.Tests.{leb-true, lt-leb, ltb-true, ltb-false, lt-ltb, le-ltb, eqb-true, eqb-false, eq-eqb, ne_eqb}
use Rattle.format.specs.Bytes.{Bytes, all, any}
use Rattle.format.specs.Characters.{◌to◌, within, well_formed, chars, code_point, white_space, is_white, is_control, is_control_code, is_lost}
use Rattle.std.specs.Prelude.{Some, None}
use Rattle.std.specs.List.{slice_get}
use Rattle.format.proofs.Lists.{bcase, below, clash, or_intro_right}
use Rattle.format.proofs.Rulesets.{tests}
use Rattle.format.proofs.Characters.WhiteSpace.{white_all}
use Rattle.format.proofs.Escaping.EndForm.{lost_is_white}
use Rattle.format.proofs.Characters.Table.{within_intro, within_below, within_above}
use Rattle.format.proofs.Characters.Chars.{chars_whole, ascii_whole, whole_single}
use Rattle.format.proofs.Characters.Shapes.{Shape, one, two, three, four, shape, value_two, value_three}
use Rattle.characters.specs.Lengths.{subpart_len, char_len}
use Rattle.characters.proofs.Utf8End.{subpart_chars, subpart_inside, char_whole}
use Rattle.code_points.specs.Ends.{lost_lead}

-- a list by its elements
pub list_zero : (g : Bytes) → length g ≡ 0 → g ≡ []
list_zero [] h = refl
list_zero (a ∷ g) h = absurd (omega arith)

pub list_one : (g : Bytes) → length g ≡ 1 → g ≡ get_or g 0 0 ∷ []
list_one [] h = absurd (omega arith)
list_one (a ∷ g) h = ap (λ (t : Bytes). a ∷ t) (list_zero g (omega arith))

list_two : (g : Bytes) → length g ≡ 2 → g ≡ get_or g 0 0 ∷ get_or g 1 0 ∷ []
list_two [] h = absurd (omega arith)
list_two (a ∷ g) h = ap (λ (t : Bytes). a ∷ t) (list_one g (omega arith))

list_three : (g : Bytes) → length g ≡ 3 → g ≡ get_or g 0 0 ∷ get_or g 1 0 ∷ get_or g 2 0 ∷ []
list_three [] h = absurd (omega arith)
list_three (a ∷ g) h = ap (λ (t : Bytes). a ∷ t) (list_two g (omega arith))

list_four : (g : Bytes) → length g ≡ 4 → g ≡ get_or g 0 0 ∷ get_or g 1 0 ∷ get_or g 2 0 ∷ get_or g 3 0 ∷ []
list_four [] h = absurd (omega arith)
list_four (a ∷ g) h = ap (λ (t : Bytes). a ∷ t) (list_three g (omega arith))

pub point_one : (g : Bytes) → length g ≡ 1 → code_point g ≡ get_or g 0 0
unfolding code_point
point_one g h = ap code_point (list_one g h)

pub point_two : (g : Bytes) → length g ≡ 2 → code_point g ≡ (get_or g 0 0 % 32) * 64 + get_or g 1 0 % 64
unfolding code_point
point_two g h = ap code_point (list_two g h)

pub point_three : (g : Bytes) → length g ≡ 3 → code_point g ≡ (get_or g 0 0 % 16) * 4096 + ((get_or g 1 0 % 64) * 64 + get_or g 2 0 % 64)
unfolding code_point
point_three g h = ap code_point (list_three g h)

pub point-four :
    (g : Bytes) → length g ≡ 4
    → code_point g ≡ (get_or g 0 0 % 8) * 262144 + ((get_or g 1 0 % 64) * 4096 + ((get_or g 2 0 % 64) * 64 + get_or g 3 0 % 64))
unfolding code_point
point-four g h = ap code_point (list_four g h)

pub point-other :
    (g : Bytes) → (length g ≡ 1 → ⊥) → (length g ≡ 2 → ⊥) → (length g ≡ 3 → ⊥) → (length g ≡ 4 → ⊥) → code_point g ≡ 0
unfolding code_point
point-other [] h i j k = refl
point-other (a ∷ []) h i j k = absurd (h refl)
point-other (a ∷ b ∷ []) h i j k = absurd (i refl)
point-other (a ∷ b ∷ c ∷ []) h i j k = absurd (j refl)
point-other (a ∷ b ∷ c ∷ d ∷ []) h i j k = absurd (k refl)
point-other (a ∷ b ∷ c ∷ d ∷ e ∷ t) h i j k = refl

-- what a slice's code point is, by its length
pub ruleset points = (point_one, point_two, point_three, point-four, point-other)

-- a whole character is all that a text of it alone begins with
whole_len_lem : (g : Bytes) → well_formed g ≡ true → char_len g ≡ length g
unfolding char_len
whole_len_lem [] h = absurd (false≢true (sym none ∙ h))
  where
    none : well_formed [] ≡ false
    none = unfold well_formed in refl
whole_len_lem (b ∷ t) h =
    let g = b ∷ t in
    let e : take (subpart_len g) g ∷ chars (drop (subpart_len g) g) ≡ g ∷ chars [] =
    sym (subpart_chars g (omega arith)) ∙ ap chars (sym (append-nil g)) ∙ chars_whole g [] h in
    let f : take (subpart_len g) g ≡ g = cc in
    let l : subpart_len g ≡ length g = omega (arith, ap length f, length-take (subpart_len g) g, subpart_inside g) in
    rw (f, h) l

-- the bytes are one character where the character that they begin with is all of them
pub whole_tested : (g : Bytes) (n : ℕ) → n ≡ char_len g → (n ≡ 0 → ⊥) → eqb n (length g) ≡ well_formed g
whole_tested g n e h =
    ⊎_elim
    (λ t.
    let l : char_len g ≡ length g = sym e ∙ eqb-true n (length g) t in
    t ∙ sym (ap well_formed (sym (take-length g) ∙ rw (← l) refl) ∙ (char_whole g (omega arith)).0))
    (λ f. f ∙ sym (⊎_elim (λ w. absurd (eqb-false n (length g) f (e ∙ whole_len_lem g w))) (λ w. w) (bcase (well_formed g))))
    (bcase (eqb n (length g)))

pub whole_none : (g : Bytes) (n : ℕ) → n ≡ char_len g → n ≡ 0 → false ≡ well_formed g
whole_none g n e h =
    sym (⊎_elim (λ w. absurd (nonempty g w (sym (whole_len_lem g w) ∙ sym e ∙ h))) (λ w. w) (bcase (well_formed g)))
  where
    nonempty : (g : Bytes) → well_formed g ≡ true → length g ≡ 0 → ⊥
    nonempty [] w l = unfold well_formed in false≢true w
    nonempty (b ∷ t) w l = omega arith

pub ruleset wholes = (whole_none, whole_tested)

-- both tests pass or both fail
agree : Bool → Bool → Bool
agree true b = b
agree false b = not b

agree_same : (a b : Bool) → agree a b ≡ true → a ≡ b
unfolding agree
agree_same true true h = refl
agree_same true false h = absurd (false≢true h)
agree_same false true h = absurd (false≢true h)
agree_same false false h = refl

-- a test passes at every number below n
every_below : (ℕ → Bool) → ℕ → Bool
every_below p zero = true
every_below p (suc n) = p n && every_below p n

at_below : (p : ℕ → Bool) (n b : ℕ) → every_below p n ≡ true → b < n → p b ≡ true
unfolding every_below
at_below p zero b h l = absurd (omega arith)
at_below p (suc n) b h l =
    ⊎_elim
    (λ e. rw (eqb-true b n e) (simp tests at h).0)
    (λ e. at_below p n b (simp tests at h).1 (omega (arith, eqb-false b n e)))
    (bcase (eqb b n))

-- the numbers of the table, by their ranges
among : (from count n : ℕ) → every_below (λ k. any (eqb (from + k)) white_space) count ≡ true → from ≤ n → n < from + count → any (eqb n) white_space ≡ true
among from count n h l m =
    let e : from + (n - from) ≡ n = omega arith in
    ap (λ k. any (eqb k) white_space) (sym e) ∙ at_below (λ k. any (eqb (from + k)) white_space) count (n - from) h (omega arith)

pub listed_controls : (n : ℕ) → 0x09 ≤ n → n ≤ 0x0D → any (eqb n) white_space ≡ true
unfolding any every_below
listed_controls n h l = among 0x09 5 n refl h (omega arith)

pub listed_spaces : (n : ℕ) → 0x2000 ≤ n → n ≤ 0x200A → any (eqb n) white_space ≡ true
unfolding any every_below
listed_spaces n h l = among 0x2000 11 n refl h (omega arith)

pub listed_ends : (n : ℕ) → 0x2028 ≤ n → n ≤ 0x2029 → any (eqb n) white_space ≡ true
unfolding any every_below
listed_ends n h l = among 0x2028 2 n refl h (omega arith)

pub listed_one : (n : ℕ) → (n ≡ 0x20) ⊎ ((n ≡ 0x85) ⊎ ((n ≡ 0xA0) ⊎ ((n ≡ 0x1680) ⊎ ((n ≡ 0x202F) ⊎ ((n ≡ 0x205F) ⊎ (n ≡ 0x3000)))))) → any (eqb n) white_space ≡ true
unfolding any
listed_one n (inl e) = rw e refl
listed_one n (inr (inl e)) = rw e refl
listed_one n (inr (inr (inl e))) = rw e refl
listed_one n (inr (inr (inr (inl e)))) = rw e refl
listed_one n (inr (inr (inr (inr (inl e))))) = rw e refl
listed_one n (inr (inr (inr (inr (inr (inl e)))))) = rw e refl
listed_one n (inr (inr (inr (inr (inr (inr e)))))) = rw e refl

pub unlisted : (n : ℕ) → (0x09 ≤ n → 0x0E ≤ n) → (0x2000 ≤ n → 0x200B ≤ n) → (0x2028 ≤ n → 0x202A ≤ n)
    → (n ≡ 0x20 → ⊥) → (n ≡ 0x85 → ⊥) → (n ≡ 0xA0 → ⊥) → (n ≡ 0x1680 → ⊥) → (n ≡ 0x202F → ⊥) → (n ≡ 0x205F → ⊥) → (n ≡ 0x3000 → ⊥)
    → any (eqb n) white_space ≡ false
unfolding any
unlisted n a b c d e f g h i j =
    rw (ne_eqb n 0x09 (λ z. omega arith), ne_eqb n 0x0A (λ z. omega arith), ne_eqb n 0x0B (λ z. omega arith), ne_eqb n 0x0C (λ z. omega arith), ne_eqb n 0x0D (λ z. omega arith), ne_eqb n 0x20 d, ne_eqb n 0x85 e, ne_eqb n 0xA0 f, ne_eqb n 0x1680 g, ne_eqb n 0x2000 (λ z. omega arith), ne_eqb n 0x2001 (λ z. omega arith), ne_eqb n 0x2002 (λ z. omega arith), ne_eqb n 0x2003 (λ z. omega arith), ne_eqb n 0x2004 (λ z. omega arith), ne_eqb n 0x2005 (λ z. omega arith), ne_eqb n 0x2006 (λ z. omega arith), ne_eqb n 0x2007 (λ z. omega arith), ne_eqb n 0x2008 (λ z. omega arith), ne_eqb n 0x2009 (λ z. omega arith), ne_eqb n 0x200A (λ z. omega arith), ne_eqb n 0x2028 (λ z. omega arith), ne_eqb n 0x2029 (λ z. omega arith), ne_eqb n 0x202F h, ne_eqb n 0x205F i, ne_eqb n 0x3000 j) refl

pub ruleset listed = (listed_controls, listed_spaces, listed_ends, listed_one, unlisted)

abbrev byte_white : ℕ → Bool
byte_white b = within b (0x09 to 0x0D) || eqb b 0x20

ascii_white : (b : ℕ) → b < 128 → any (eqb b) white_space ≡ byte_white b
unfolding any agree every_below
ascii_white b h = agree_same (any (eqb b) white_space) (byte_white b) (at_below (λ b. agree (any (eqb b) white_space) (byte_white b)) 128 b refl h)

white_low : (b : ℕ) → b < 128 → is_white (b ∷ []) ≡ byte_white b
unfolding is_white code_point
white_low b h = rw (ascii_whole b h) (ascii_white b h)

pub white_high : (b : ℕ) → 128 ≤ b → is_white (b ∷ []) ≡ false
unfolding is_white
white_high b h =
    ⊎_elim (λ w. absurd (omega (arith, whole_single b w))) (λ w. rw w refl) (bcase (well_formed (b ∷ [])))

white_byte : (b : ℕ) → is_white (b ∷ []) ≡ byte_white b
white_byte b =
    ⊎_elim
    (λ l. white_low b (ltb-true b 128 l))
    (λ g.
    let h = ltb-false b 128 g in
    white_high b h ∙ sym (rw (lt-leb b 0x0D (omega arith), and-false (leb 0x09 b), ne_eqb b 0x20 (λ e. omega arith)) refl))
    (bcase (ltb b 128))

-- of the ASCII bytes only the space is white space and no control character
pub lost_low : (b : ℕ) → b < 128 → is_lost (b ∷ []) ≡ eqb b 0x20
unfolding is_lost is_control is_control_code code_point agree every_below
lost_low b h =
    rw (white_low b h, ascii_whole b h)
    (agree_same (byte_white b && not (is_control_code b)) (eqb b 0x20) (at_below (λ b. agree (byte_white b && not (is_control_code b)) (eqb b 0x20)) 128 b refl h))

-- the answers of the test of a byte
pub byte_among : (b : ℕ) → 0x09 ≤ b → b ≤ 0x0D → is_white (b ∷ []) ≡ true
byte_among b h l = white_byte b ∙ rw (within_intro b (0x09 to 0x0D) h l) refl

pub byte_space : (b : ℕ) → b ≡ 0x20 → is_white (b ∷ []) ≡ true
byte_space b e = white_byte b ∙ rw e refl

pub byte_other : (b : ℕ) → (0x09 ≤ b → 0x0E ≤ b) → (b ≡ 0x20 → ⊥) → is_white (b ∷ []) ≡ false
byte_other b h n = white_byte b ∙ rw (ne_eqb b 0x20 n) (or-false (within b (0x09 to 0x0D)) ∙ ⊎_elim (λ l. within_below b (0x09 to 0x0D) l) (λ m. within_above b (0x09 to 0x0D) (h m)) (below b 0x09))

pub ruleset white_bytes = (byte_among, byte_space, byte_other)

-- and of the test of a character
pub white_listed : (g : Bytes) → any (eqb (code_point g)) white_space ≡ true → well_formed g ≡ is_white g
unfolding is_white
white_listed g h = rw h (sym (and-true (well_formed g)))

pub white_unlisted : (g : Bytes) → any (eqb (code_point g)) white_space ≡ false → false ≡ is_white g
unfolding is_white
white_unlisted g h = rw h (sym (and-false (well_formed g)))

pub ruleset whites = (list_one, white_listed, white_unlisted)

pub control_low : (g : Bytes) → code_point g < 0x20 → well_formed g ≡ is_control g
unfolding is_control is_control_code
control_low g h = rw (lt-ltb (code_point g) 0x20 h) (sym (and-true (well_formed g)))

pub control_high : (g : Bytes) → 0x7F ≤ code_point g → code_point g ≤ 0x9F → well_formed g ≡ is_control g
unfolding is_control is_control_code
control_high g h i =
    rw (le-ltb (code_point g) 0x20 (omega arith), within_intro (code_point g) (0x7F to 0x9F) h i) (sym (and-true (well_formed g)))

pub control_between : (g : Bytes) → 0x20 ≤ code_point g → code_point g < 0x7F → false ≡ is_control g
unfolding is_control is_control_code
control_between g h i =
    rw (le-ltb (code_point g) 0x20 h, within_below (code_point g) (0x7F to 0x9F) i) (sym (and-false (well_formed g)))

pub control_above : (g : Bytes) → 0x9F < code_point g → false ≡ is_control g
unfolding is_control is_control_code
control_above g h =
    rw (le-ltb (code_point g) 0x20 (omega arith), lt-leb (code_point g) 0x9F h, and-false (leb 0x7F (code_point g))) (sym (and-false (well_formed g)))

pub ruleset controls = (control_low, control_high, control_between, control_above)

pub white_whole : (g : Bytes) → is_white g ≡ true → well_formed g ≡ true
unfolding is_white
white_whole g h = (simp tests at h).0

white_most : (g : Bytes) → is_white g ≡ true → code_point g ≤ 0x3000
unfolding all
white_most g h = leb-true (code_point g) 0x3000 (white_all (λ x. leb x 0x3000) refl g h)

-- no white space between U+00A0 and U+1680
white_gap : (g : Bytes) → is_white g ≡ true → 0xA0 < code_point g → 0x1680 ≤ code_point g
unfolding all
white_gap g h l =
    let n = code_point g in
    leb-true 0x1680 n (sym (ap (λ x. x || leb 0x1680 n) (lt-leb n 0xA0 l)) ∙ white_all (λ x. leb x 0xA0 || leb 0x1680 x) refl g h)

-- what is lost
pub lost_dark : (g : Bytes) → is_white g ≡ false → false ≡ is_lost g
unfolding is_lost
lost_dark g h = rw h refl

pub lost_white : (g : Bytes) (c : Bool) → is_white g ≡ true → c ≡ is_control g → not c ≡ is_lost g
unfolding is_lost
lost_white g c h e = rw (h, e) refl

-- a byte that white space which is no control character begins with
lost_leads : (b : ℕ) (t : Bytes) → is_lost (b ∷ t) ≡ true → lost_lead b ≡ true
unfolding lost_lead
lost_leads b t h =
    let w = lost_is_white (b ∷ t) h in
    go (shape (b ∷ t) (white_whole (b ∷ t) w)) h (white_most (b ∷ t) w) (white_gap (b ∷ t) w)
  where
    go : {b : ℕ} {t : Bytes} → Shape (b ∷ t) → is_lost (b ∷ t) ≡ true → code_point (b ∷ t) ≤ 0x3000 → (0xA0 < code_point (b ∷ t) → 0x1680 ≤ code_point (b ∷ t))
        → lost_lead b ≡ true
    go (one a x) h m n = rw (sym (lost_low a (omega arith)) ∙ h) refl
    go (two a b x y) h m n =
        let v = value_two a b (omega arith) y in
        rw (eq-eqb a 0xC2 (⊎_elim (λ l. omega (arith, n l)) (λ l. omega arith) (below 0xA0 (code_point (a ∷ b ∷ []))))) (or-true (eqb a 0x20))
    go (three a b c x y z u v) h m n =
        let v = value_three a b c x y z in
        let l = n (omega arith) in
        or_intro_right (eqb a 0x20) _ (or_intro_right (eqb a 0xC2) _ (within_intro a (0xE1 to 0xE3) (omega arith) (omega arith)))
    go (four a b c d x y z u v) h m n = absurd (omega arith)

pub lost_empty : (g : Bytes) → length g ≡ 0 → false ≡ is_lost g
unfolding is_lost is_white well_formed
lost_empty [] h = refl
lost_empty (b ∷ t) h = absurd (omega arith)

pub lost_none : (g : Bytes) → slice_get g 0 ≡ None → is_lost g ≡ false
lost_none [] e = sym (lost_empty [] refl)
lost_none (b ∷ t) e = absurd (cc)

pub lost_unled : (g : Bytes) (b : ℕ) → slice_get g 0 ≡ Some b → lost_lead b ≡ false → is_lost g ≡ false
lost_unled [] b e h = absurd (cc)
lost_unled (a ∷ t) b e h =
    let f : a ≡ b = cc in
    ⊎_elim (λ l. clash (lost_leads a t l) (rw f h)) (λ l. l) (bcase (is_lost (a ∷ t)))

pub lead_space : (b : ℕ) → b ≡ 0x20 → lost_lead b ≡ true
unfolding lost_lead
lead_space b e = rw e refl

pub lead_two : (b : ℕ) → b ≡ 0xC2 → lost_lead b ≡ true
unfolding lost_lead
lead_two b e = rw e refl

pub lead_three : (b : ℕ) → 0xE1 ≤ b → b ≤ 0xE3 → lost_lead b ≡ true
unfolding lost_lead
lead_three b h l = or_intro_right (eqb b 0x20) _ (or_intro_right (eqb b 0xC2) _ (within_intro b (0xE1 to 0xE3) h l))

pub lead_other : (b : ℕ) → (b ≡ 0x20 → ⊥) → (b ≡ 0xC2 → ⊥) → (0xE1 ≤ b → 0xE4 ≤ b) → lost_lead b ≡ false
unfolding lost_lead
lead_other b s t h =
    rw (ne_eqb b 0x20 s, ne_eqb b 0xC2 t)
    (⊎_elim (λ l. within_below b (0xE1 to 0xE3) l) (λ m. within_above b (0xE1 to 0xE3) (h m)) (below b 0xE1))

pub ruleset losts = (lost_white, lost_dark, lost_none, lost_unled)

pub ruleset leads = (lead_space, lead_two, lead_three, lead_other)

-- a white-space character has one byte, two or three
pub white_short : (g : Bytes) → is_white g ≡ true → length g ≤ 3
white_short g h = go (shape g (white_whole g h)) (white_most g h)
  where
    go : {g : Bytes} → Shape g → code_point g ≤ 0x3000 → length g ≤ 3
    go (one a x) l = omega arith
    go (two a b x y) l = omega arith
    go (three a b c x y z u v) l = omega arith
    go (four a b c d x y z u v) l = absurd (omega arith)
