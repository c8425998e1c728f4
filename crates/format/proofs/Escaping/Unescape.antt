-- What reading escapes gives: UTF-8 from UTF-8, and never more bytes than were read.
-- A backslash, a digit and a plus are ASCII, so an escape ends where a character ends; a character of several bytes holds no backslash.
use Rattle.std.specs.Prelude.{if◌then◌else◌}
use Prim.Native.Nat.{ℕ, zero, suc, ◌-◌, ◌≤◌, ◌<◌}
use mathlib.Core.Path.{◌≡◌, refl, sym, ap, ◌∙◌}
use mathlib.Core.Bool.{Bool, true, false, not, ◌&&◌}
use mathlib.Core.Logic.{⊎_elim}
use mathlib.Core.List.{[], ◌∷◌, ◌++◌, append_assoc}
use mathlib.Core.Option.{Option, none, some}
use native.Mathlib.Omega.{arith}
use lib.Dec.{leb, ltb, eqb}
use lib.ListN.{length, take, drop, length-append, length-drop, take-append-drop}
use borrow.Author.Tests.{eqb-true, leb-true, ne_eqb, not-true}
use Rattle.format.specs.Bytes.{Bytes, all, backslash, plus}
use Rattle.format.specs.Characters.{◌to◌, within, well_formed, is_utf8, trailing, encoding, is_scalar}
use Rattle.format.specs.Escaping.{digit_value, shifted, first_digit, four_digits, Escape, scalar_escape, long_escape, one_byte, apostrophe_escape, short_escape, escape_at, takes_of, in_front, escaped, unescape_from, unescape_by}
use Rattle.format.specs.declared.Manner.{Manner}
use Rattle.format.specs.declared.Manner.TheVariants.{Source, Rfc}
use Rattle.format.proofs.Lists.{bcase, and_left, and_right, all_head, all_tail, all_map}
use Rattle.format.proofs.Characters.Table.{within_high}
use Rattle.format.proofs.Characters.Chars.{chars_cons, utf8_whole, utf8_append, utf8_ascii, ascii_whole, whole_high}
use Rattle.format.proofs.Characters.Scalars.{encoding_whole}

-- what stands behind a text that was read has been read
pub behind_some : (s : Bytes) (o : Option Bytes) (v : Bytes) → in_front s o ≡ some v → (w : Bytes) × (o ≡ some w) × (v ≡ s ++ w)
behind_some s none v h = absurd (let z : ◌≡◌ {A = ℕ} 0 1 = cc in omega arith)
behind_some s (some w) v h = (w, refl, cc)

pub behind_nil : (o : Option Bytes) → in_front [] o ≡ o
behind_nil none = refl
behind_nil (some t) = refl

pub behind_behind : (s t : Bytes) (o : Option Bytes) → in_front s (in_front t o) ≡ in_front (s ++ t) o
behind_behind s t none = refl
behind_behind s t (some u) = rw append_assoc refl

escaped_some : (o : Option Escape) (t : Option Bytes) (v : Bytes) → escaped o t ≡ some v → (e : Escape) × (o ≡ some e) × (in_front e.stands t ≡ some v)
escaped_some none t v h = absurd (let z : ◌≡◌ {A = ℕ} 0 1 = cc in omega arith)
escaped_some (some e) t v h = (e, refl, h)

-- one branch of a test that gives something
pub branch :
    {A : Type 0} {P : Type 0} (b : Bool) (x y : Option A) (e : A)
    → (b ≡ true → x ≡ some e → P)
    → (y ≡ some e → P)
    → (if b then x else y) ≡ some e
    → P
branch true x y e f g h = f refl h
branch false x y e f g h = g h

-- nothing is not something
pub nothing : {A : Type 0} {P : Type 0} (e : A) → none ≡ some e → P
nothing e h = absurd (let z : ◌≡◌ {A = ℕ} 0 1 = cc in omega arith)

digit_ascii : (c n : ℕ) → digit_value c ≡ some n → c < 128
unfolding digit_value
digit_ascii c n h =
    branch (leb 48 c && leb c 57) _ _ n (λ t e. omega (arith, leb-true c 57 (and_right (leb 48 c) (leb c 57) t)))
    (branch (leb 97 c && leb c 102) _ _ n (λ t e. omega (arith, leb-true c 102 (and_right (leb 97 c) (leb c 102) t)))
    (branch (leb 65 c && leb c 70) _ _ n (λ t e. omega (arith, leb-true c 70 (and_right (leb 65 c) (leb c 70) t))) (nothing n)))
    h

-- a number, where there is one, is below k
abbrev pub Below : ℕ → Option ℕ → Type 0
Below k o = (n : ℕ) → o ≡ some n → n < k

pub digit_small : (c : ℕ) → Below 16 (digit_value c)
unfolding digit_value
digit_small c n h =
    branch (within c (48 to 57)) _ _ n (λ t e. let z : c - 48 ≡ n = cc in omega (arith, within_high c (48 to 57) t))
    (branch (within c (97 to 102)) _ _ n (λ t e. let z : c - 87 ≡ n = cc in omega (arith, within_high c (97 to 102) t))
    (branch (within c (65 to 70)) _ _ n (λ t e. let z : c - 55 ≡ n = cc in omega (arith, within_high c (65 to 70) t)) (nothing n)))
    h

pub first_small : (r : Manner) (c : ℕ) → Below 16 (first_digit r c)
unfolding first_digit
first_small Rfc c n h = digit_small c n h
first_small Source c n h = branch (eqb c plus) _ _ n (λ t e. let z : 0 ≡ n = cc in omega arith) (digit_small c n) h

shifted_some : (o d : Option ℕ) (n : ℕ) → shifted o d ≡ some n → (m : ℕ) × (k : ℕ) × (o ≡ some m) × (d ≡ some k)
shifted_some none d n h = nothing n h
shifted_some (some m) none n h = nothing n h
shifted_some (some m) (some k) n h = (m, k, refl, refl)

-- What holds of an escape that the bytes s behind a backslash begin with.
pub record Sound (s : Bytes) (e : Escape) : Type 0 where
  pub whole : well_formed e.stands ≡ true
  pub rest : is_utf8 s ≡ true → is_utf8 (drop e.takes s) ≡ true
  pub small : length e.stands ≤ suc e.takes
  pub fits : e.takes ≤ length s

tail_utf8 : (b : ℕ) (t : Bytes) → b < 128 → is_utf8 (b ∷ t) ≡ true → is_utf8 t ≡ true
tail_utf8 b t l h = sym (utf8_ascii b t l) ∙ h

encoding_short : (n : ℕ) → length (encoding n) ≤ 4
unfolding encoding
encoding_short n =
    ⊎_elim (λ h. rw h (omega arith))
    (λ h.
    rw h
    (⊎_elim (λ k. rw k (omega arith)) (λ k. rw k (⊎_elim (λ l. rw l (omega arith)) (λ l. rw l (omega arith)) (bcase (ltb n 0x10000)))) (bcase (ltb n 0x800))))
    (bcase (ltb n 0x80))

single_sound : (c n k : ℕ) (s : Bytes) (e : Escape) → k < 128 → n < 128 → eqb c k ≡ true → one_byte n ≡ some e → Sound (c ∷ s) e
single_sound c n k s e l m t h =
    let z : ◌≡◌ {A = Escape} (record { stands = n ∷ []; takes = 1 }) e = cc in
    rw z at at
  where
    at : Sound (c ∷ s) (record { stands = n ∷ []; takes = 1 })
    at = record { whole = ascii_whole n m; rest = tail_utf8 c s (omega (arith, eqb-true c k t)); small = omega arith; fits = omega arith }

-- What the manners differ in: the first digit, and \'.
first_ascii : (r : Manner) (a n : ℕ) → first_digit r a ≡ some n → a < 128
unfolding first_digit
first_ascii Source a n h = branch (eqb a plus) _ _ n (λ t e. omega (arith, eqb-true a plus t)) (digit_ascii a n) h
first_ascii Rfc a n h = digit_ascii a n h

apostrophe_sound : (r : Manner) (c : ℕ) (s : Bytes) (e : Escape) → apostrophe_escape r c ≡ some e → Sound (c ∷ s) e
unfolding apostrophe_escape
apostrophe_sound Source c s e h = nothing e h
apostrophe_sound Rfc c s e h = branch (eqb c 39) _ _ e (single_sound c 39 39 s e (omega arith) (omega arith)) (nothing e) h

-- no backslash in the text
abbrev pub plain : Bytes → Bool
plain s = all (λ b. not (eqb b backslash)) s

-- a character that does not begin with a backslash has none
pub whole_plain : (b : ℕ) (t : Bytes) → well_formed (b ∷ t) ≡ true → eqb b backslash ≡ false → plain (b ∷ t) ≡ true
unfolding all
whole_plain b [] w h = rw h refl
whole_plain b (c ∷ t) w h =
    all_map (leb 128) (λ b. not (eqb b backslash)) (λ x l. rw (ne_eqb x backslash (λ e. omega (arith, leb-true 128 x l))) refl) (b ∷ c ∷ t) (whole_high b c t w)

utf8_cons : (b : ℕ) (t : Bytes) → is_utf8 (b ∷ t) ≡ (well_formed (b ∷ take (trailing b t) t) && is_utf8 (drop (trailing b t) t))
unfolding is_utf8 all
utf8_cons b t = ap (all well_formed) (chars_cons b t)

-- In either manner.
module _ (r : Manner) where
  -- the bytes of an escape are passed over
  pub unescape_skip : (k : ℕ) (s : Bytes) → unescape_from r k s ≡ unescape_from r 0 (drop k s)
  unfolding unescape_from
  unescape_skip zero s = refl
  unescape_skip (suc k) [] = refl
  unescape_skip (suc k) (b ∷ s) = unescape_skip k s

  pub four_ascii_lem : (a b c d n : ℕ) → four_digits r a b c d ≡ some n → (a < 128) × (b < 128) × (c < 128) × (d < 128)
  unfolding four_digits
  four_ascii_lem a b c d n h =
      let x = shifted_some _ (digit_value d) n h in
      let y = shifted_some _ (digit_value c) x.0 x.2 in
      let z = shifted_some _ (digit_value b) y.0 y.2 in
      (first_ascii r a z.0 z.2, digit_ascii b z.1 z.3, digit_ascii c y.1 y.3, digit_ascii d x.1 x.3)

  long_sound : (u a b c d : ℕ) (s : Bytes) (e : Escape) → u < 128 → long_escape r (a ∷ b ∷ c ∷ d ∷ s) ≡ some e → Sound (u ∷ a ∷ b ∷ c ∷ d ∷ s) e
  unfolding long_escape scalar_escape
  long_sound u a b c d s e l h = go (four_digits r a b c d) refl h
    where
      at : (n : ℕ) → four_digits r a b c d ≡ some n → is_scalar n ≡ true → Sound (u ∷ a ∷ b ∷ c ∷ d ∷ s) (record { stands = encoding n; takes = 5 })
      at n f i =
          let k = four_ascii_lem a b c d n f in
          record {
            whole = encoding_whole n i;
            rest = λ h. tail_utf8 d s k.3 (tail_utf8 c _ k.2 (tail_utf8 b _ k.1 (tail_utf8 a _ k.0 (tail_utf8 u _ l h))));
            small = omega (arith, encoding_short n);
            fits = omega arith;
          }

      go : (o : Option ℕ) → four_digits r a b c d ≡ o → scalar_escape o ≡ some e → Sound (u ∷ a ∷ b ∷ c ∷ d ∷ s) e
      go none f h = nothing e h
      go (some n) f h =
          branch (is_scalar n) _ _ e
          (λ i q. let z : ◌≡◌ {A = Escape} (record { stands = encoding n; takes = 5 }) e = cc in rw z at (at n f i)) (nothing e) h

  short_sound : (c : ℕ) (s : Bytes) (e : Escape) → short_escape r c ≡ some e → Sound (c ∷ s) e
  unfolding short_escape
  short_sound c s e h =
      branch (eqb c 92) _ _ e (single_sound c 92 92 s e (omega arith) (omega arith))
      (branch (eqb c 34) _ _ e (single_sound c 34 34 s e (omega arith) (omega arith))
      (branch (eqb c 98) _ _ e (single_sound c 8 98 s e (omega arith) (omega arith))
      (branch (eqb c 116) _ _ e (single_sound c 9 116 s e (omega arith) (omega arith))
      (branch (eqb c 110) _ _ e (single_sound c 10 110 s e (omega arith) (omega arith))
      (branch (eqb c 114) _ _ e (single_sound c 13 114 s e (omega arith) (omega arith)) (apostrophe_sound r c s e))))))
      h

  letter_sound : (c : ℕ) (s : Bytes) (e : Escape) → c < 128 → long_escape r s ≡ some e → Sound (c ∷ s) e
  unfolding long_escape
  letter_sound u [] e l h = nothing e h
  letter_sound u (a ∷ []) e l h = nothing e h
  letter_sound u (a ∷ b ∷ []) e l h = nothing e h
  letter_sound u (a ∷ b ∷ c ∷ []) e l h = nothing e h
  letter_sound u (a ∷ b ∷ c ∷ d ∷ s) e l h = long_sound u a b c d s e l h

  pub sound : (s : Bytes) (e : Escape) → escape_at r s ≡ some e → Sound s e
  unfolding escape_at
  sound [] e h = nothing e h
  sound (c ∷ s) e h = branch (eqb c 117) _ _ e (λ t k. letter_sound c s e (omega (arith, eqb-true c 117 t)) k) (short_sound c s e) h

  -- what is read from s, wherever reading starts, is no longer than what is left of s there
  abbrev Shorter : Bytes → Type 0
  Shorter s = (k : ℕ) (w : Bytes) → unescape_from r k s ≡ some w → length w ≤ length s - k

  read-shorter :
      (s v : Bytes)
      → Shorter s
      → escaped (escape_at r s) (unescape_from r (takes_of (escape_at r s)) s) ≡ some v
      → length v ≤ suc (length s)
  read-shorter s v f h =
      let x = escaped_some (escape_at r s) (unescape_from r (takes_of (escape_at r s)) s) v h in
      let y = behind_some x.0.stands (unescape_from r (takes_of (escape_at r s)) s) v x.2 in
      let o = sound s x.0 x.1 in
      omega (arith, o.small, o.fits, f (takes_of (escape_at r s)) y.0 y.1, ap takes_of x.1, ap length y.2, length-append x.0.stands y.0)

  plain_shorter : (b : ℕ) (s v : Bytes) → Shorter s → in_front (b ∷ []) (unescape_from r 0 s) ≡ some v → length v ≤ suc (length s)
  plain_shorter b s v f h =
      let y = behind_some (b ∷ []) (unescape_from r 0 s) v h in
      omega (arith, f 0 y.0 y.1, ap length y.2)

  shorter_from : (k : ℕ) (s v : Bytes) → unescape_from r k s ≡ some v → length v ≤ length s - k
  unfolding unescape_from
  shorter_from k [] v h = let e : [] ≡ v = cc in rw (← e) (omega arith)
  shorter_from zero (b ∷ s) v h =
      ⊎_elim (λ t. omega (arith, read-shorter s v (λ k w. shorter_from k s w) (rw t at h)))
      (λ t. omega (arith, plain_shorter b s v (λ k w. shorter_from k s w) (rw t at h))) (bcase (eqb b backslash))
  shorter_from (suc k) (b ∷ s) v h = omega (arith, shorter_from k s v h)

  -- an escape of n + 1 bytes stands for at most that many
  pub unescape_shorter : (s v : Bytes) → unescape_by r s ≡ some v → length v ≤ length s
  unescape_shorter s v h = omega (arith, shorter_from 0 s v h)

  -- a text without a backslash reads as it is
  pub plain_read : (g s : Bytes) → plain g ≡ true → unescape_by r (g ++ s) ≡ in_front g (unescape_by r s)
  unfolding unescape_from all
  plain_read [] s h = sym (behind_nil (unescape_by r s))
  plain_read (b ∷ g) s h =
      rw (not-true (eqb b backslash) (all_head (λ b. not (eqb b backslash)) b g h))
      (ap (in_front (b ∷ [])) (plain_read g s (all_tail (λ b. not (eqb b backslash)) b g h)) ∙ behind_behind (b ∷ []) g (unescape_by r s))

  -- what is read from UTF-8 of at most n bytes is UTF-8
  abbrev Sane : ℕ → Type 0
  Sane n = (s w : Bytes) → length s ≤ n → is_utf8 s ≡ true → unescape_by r s ≡ some w → is_utf8 w ≡ true

  plain_utf8 :
      (n b : ℕ) (t v : Bytes) (k : ℕ)
      → length t ≤ n
      → (well_formed (b ∷ take k t) && is_utf8 (drop k t)) ≡ true
      → eqb b backslash ≡ false
      → unescape_by r (b ∷ t) ≡ some v
      → Sane n
      → is_utf8 v ≡ true
  plain_utf8 n b t v k l c e h f =
      let w = and_left (well_formed (b ∷ take k t)) (is_utf8 (drop k t)) c in
      let q : unescape_by r (b ∷ t) ≡ in_front (b ∷ take k t) (unescape_by r (drop k t)) =
      ap (λ (s : Bytes). unescape_by r (b ∷ s)) (sym (take-append-drop k t)) ∙ plain_read (b ∷ take k t) (drop k t) (whole_plain b (take k t) w e) in
      let y = behind_some (b ∷ take k t) (unescape_by r (drop k t)) v (sym q ∙ h) in
      ap is_utf8 y.2
      ∙ utf8_append (b ∷ take k t) y.0 (utf8_whole (b ∷ take k t) w)
      ∙ f (drop k t) y.0 (omega (arith, length-drop k t)) (and_right (well_formed (b ∷ take k t)) (is_utf8 (drop k t)) c) y.1

  read-utf8 :
      (n : ℕ) (s v : Bytes)
      → length s ≤ n
      → is_utf8 s ≡ true
      → escaped (escape_at r s) (unescape_from r (takes_of (escape_at r s)) s) ≡ some v
      → Sane n
      → is_utf8 v ≡ true
  read-utf8 n s v l u h f =
      let x = escaped_some (escape_at r s) (unescape_from r (takes_of (escape_at r s)) s) v h in
      let y = behind_some x.0.stands (unescape_from r (takes_of (escape_at r s)) s) v x.2 in
      let o = sound s x.0 x.1 in
      let k = x.0.takes in
      let q : unescape_by r (drop k s) ≡ some y.0 = sym (ap (λ (k : ℕ). unescape_from r k s) (ap takes_of x.1) ∙ unescape_skip k s) ∙ y.1 in
      ap is_utf8 y.2
      ∙ utf8_append x.0.stands y.0 (utf8_whole x.0.stands o.whole)
      ∙ f (drop k s) y.0 (omega (arith, length-drop k s)) (o.rest u) q

  utf8_step : (n b : ℕ) (t v : Bytes) → length t ≤ n → is_utf8 (b ∷ t) ≡ true → unescape_by r (b ∷ t) ≡ some v → Sane n → is_utf8 v ≡ true
  unfolding unescape_from
  utf8_step n b t v l u h f = ⊎_elim read plain (bcase (eqb b backslash))
    where
      read : eqb b backslash ≡ true → is_utf8 v ≡ true
      read e = read-utf8 n t v l (tail_utf8 b t (omega (arith, eqb-true b backslash e)) u) (rw e at h) f

      plain : eqb b backslash ≡ false → is_utf8 v ≡ true
      plain e = plain_utf8 n b t v (trailing b t) l (sym (utf8_cons b t) ∙ u) e h f

  utf8_within : (n : ℕ) → Sane n
  unfolding unescape_from
  utf8_within zero [] v l u h = let e : [] ≡ v = cc in rw (← e) u
  utf8_within zero (b ∷ t) v l u h = absurd (omega arith)
  utf8_within (suc n) [] v l u h = let e : [] ≡ v = cc in rw (← e) u
  utf8_within (suc n) (b ∷ t) v l u h = utf8_step n b t v (omega arith) u h (utf8_within n)

  -- what is read from UTF-8 is UTF-8
  pub unescape_utf8 : (s v : Bytes) → is_utf8 s ≡ true → unescape_by r s ≡ some v → is_utf8 v ≡ true
  unescape_utf8 s v u h = utf8_within (length s) s v (omega arith) u h
