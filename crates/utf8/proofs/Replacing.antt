-- The replacement of ill-formed subparts, a run of UTF-8 and a subpart at a time: the run stays as it is, and the subpart behind it
-- becomes U+FFFD. Assumes nothing.
use Prim.Native.Nat.{ℕ, ◌+◌, ◌-◌, ◌≤◌, ◌<◌}
use mathlib.Core.Path.{◌≡◌, refl, sym, ap, ◌∙◌}
use mathlib.Core.Bool.{true, false}
use mathlib.Core.Logic.{⊎_elim}
use mathlib.Core.List.{[], ◌++◌}
use native.Mathlib.Omega.{arith}
use lib.ListN.{length, take, drop, length-append, length-drop, drop_of_length-le}
use lib.Seq.{drop-drop, length-take-le}
use Rattle.format.specs.Bytes.{Bytes, texts}
use Rattle.format.specs.Characters.{well_formed, chars, is_utf8, replacement, or_replaced, replaced}
use Rattle.format.proofs.Lists.{bcase, texts_append}
use Rattle.format.proofs.Characters.Chars.{chars_nil, chars_append}
use Rattle.format.proofs.Characters.Replaced.{replaced_same}
use Rattle.characters.specs.Lengths.{subpart_len, whole_len, utf8_end}
use Rattle.characters.proofs.Utf8End.{whole_cons, subpart_chars, subpart_some, subpart_inside, cut_at, end_past, end_utf8, end_inside}

pub replaced_nil : replaced [] ≡ []
unfolding replaced texts
replaced_nil = rw chars_nil refl

pub replaced_append : (s t : Bytes) → is_utf8 s ≡ true → replaced (s ++ t) ≡ s ++ replaced t
unfolding replaced
replaced_append s t u =
    ap (texts or_replaced) (chars_append s t u)
    ∙ texts_append or_replaced (chars s) (chars t)
    ∙ ap (λ (x : Bytes). x ++ texts or_replaced (chars t)) (replaced_same s u)

-- an ill-formed subpart in front becomes U+FFFD
replaced_ill : (u : Bytes) → 0 < length u → well_formed (take (subpart_len u) u) ≡ false → replaced u ≡ replacement ++ replaced (drop (subpart_len u) u)
unfolding replaced texts
replaced_ill u h w = rw (subpart_chars u h, w) refl

-- where UTF-8 ends at once the first subpart is ill-formed
ends_ill : (u : Bytes) → 0 < length u → whole_len (chars u) ≡ 0 → well_formed (take (subpart_len u) u) ≡ false
ends_ill u h e =
    ⊎_elim
    (λ w.
    let g = take (subpart_len u) u in
    let f : length g + whole_len (chars (drop (subpart_len u) u)) ≡ 0 =
    sym (ap whole_len (subpart_chars u h) ∙ whole_cons g (chars (drop (subpart_len u) u)) w) ∙ e in
    absurd (omega (arith, length-take-le (subpart_len u) u (subpart_inside u), subpart_some u h)))
    (λ w. w)
    (bcase (well_formed (take (subpart_len u) u)))

-- From the place i on UTF-8 ends at the place e.
pub record Run (s : Bytes) (i e : ℕ) : Type 0 where
  pub starts : i ≤ length s
  pub ends : e ≡ utf8_end s i

-- At the place e an ill-formed subpart of n bytes stands.
pub record Ill (s : Bytes) (e n : ℕ) : Type 0 where
  pub more : e ≡ length s → ⊥
  pub subpart : n ≡ subpart_len (drop e s)

module _ {s : Bytes} {i e : ℕ} (r : Run s i e) where
  pub run_inside : (i ≤ e) × (e ≤ length s)
  run_inside = rw r.ends (end_inside s i r.starts)

  run_utf8 : is_utf8 (take (e - i) (drop i s)) ≡ true
  run_utf8 = rw r.ends (end_utf8 s i)

  abbrev i_to_e : i + (e - i) ≡ e
  i_to_e = omega (arith, run_inside.0)

  -- the run stays
  pub run_kept : replaced (drop i s) ≡ take (e - i) (drop i s) ++ replaced (drop e s)
  run_kept =
      ap replaced (cut_at s i (e - i))
      ∙ replaced_append (take (e - i) (drop i s)) (drop (i + (e - i)) s) run_utf8
      ∙ ap (λ (n : ℕ). take (e - i) (drop i s) ++ replaced (drop n s)) i_to_e

  pub run_length : length (take (e - i) (drop i s)) ≡ e - i
  run_length = length-take-le (e - i) (drop i s) (omega (arith, length-drop i s, run_inside.1))

  pub run_count : length (replaced (drop i s)) ≡ e - i + length (replaced (drop e s))
  run_count = ap length run_kept ∙ length-append (take (e - i) (drop i s)) (replaced (drop e s)) ∙ rw run_length refl

  -- it reaches the end
  pub run_last : e ≡ length s → replaced (drop e s) ≡ []
  run_last l = ap replaced (drop_of_length-le s {i = e} (omega arith)) ∙ replaced_nil

  ends_here : whole_len (chars (drop e s)) ≡ 0
  unfolding utf8_end
  ends_here =
      let f : utf8_end s i ≡ utf8_end s e = end_past s i (e - i) (omega (arith, run_inside.0, run_inside.1)) run_utf8 ∙ ap (utf8_end s) i_to_e in
      omega (arith, f, r.ends)

  -- or a subpart stands behind it
  module _ {n : ℕ} (l : Ill s e n) where
    rest_some : 0 < length (drop e s)
    rest_some = omega (arith, l.more, length-drop e s, run_inside.1)

    pub ill_inside : (0 < n) × (e + n ≤ length s)
    ill_inside = (
      omega (arith, l.subpart, subpart_some (drop e s) rest_some),
      omega (arith, l.subpart, subpart_inside (drop e s), length-drop e s, run_inside.1),
    )

    pub ill_replaced : replaced (drop e s) ≡ replacement ++ replaced (drop (e + n) s)
    ill_replaced =
        replaced_ill (drop e s) rest_some (ends_ill (drop e s) rest_some ends_here)
        ∙ ap (λ (k : ℕ). replacement ++ replaced (drop k (drop e s))) (sym l.subpart)
        ∙ ap (λ (x : Bytes). replacement ++ replaced x) (drop-drop n e s)

    pub ill_count : length (replaced (drop e s)) ≡ 3 + length (replaced (drop (e + n) s))
    ill_count = ap length ill_replaced ∙ length-append replacement (replaced (drop (e + n) s))

  pub ill_room : (e ≡ length s → ⊥) → 3 ≤ length (replaced (drop e s))
  ill_room l = omega (arith, ill_count (record { more = l; subpart = refl }))
