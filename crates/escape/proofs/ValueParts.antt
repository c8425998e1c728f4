-- Where the ends of a header value are cut off: a first character that is lost, and a last one that is, looked for behind the first.
-- Where both ends are ASCII and no space, nothing is cut off (`ascii_cuts`). Assumes nothing.
use Prim.Native.Nat.{ℕ, ◌+◌, ◌-◌, ◌≤◌, ◌<◌}
use mathlib.Core.Path.{◌≡◌, refl, sym, ap, subst, ◌∙◌}
use mathlib.Core.Bool.{true, ◌&&◌, not}
use mathlib.Core.Logic.{⊎_elim}
use mathlib.Core.List.{List, [], ◌∷◌, ◌++◌, append-nil, append_assoc}
use native.Mathlib.Omega.{arith}
use lib.Dec.{eqb, ltb}
use lib.ListN.{length, take, drop, get_or, length-append, length-drop, take-append-drop}
use lib.Seq.{take-length, drop-length, drop-drop}
use borrow.Author.Tests.{ne_eqb, eqb-false, ltb-true, not-true}
use Rattle.format.specs.Bytes.{Bytes, pasted, texts}
use Rattle.format.specs.Characters.{chars, code_point, is_lost}
use Rattle.format.specs.Escaping.{unicode_escape, escape_char, escape, end_form, last_forms, value_forms, value_text}
use Rattle.format.proofs.Lists.{clash, below, and_left, and_right, rest_is}
use Rattle.format.proofs.Characters.Chars.{chars_whole}
use Rattle.format.proofs.Escaping.EndForm.{lost_whole}
use Rattle.format.proofs.Escaping.ValueText.{last_escape, forms_last}
use Rattle.octets.proofs.Paste.{pasted_nil}
use Rattle.code_points.specs.Ends.{lost_front, lost_back}
use Rattle.code_points.proofs.WhiteTests.{lost_empty}
use Rattle.code_points.proofs.LastChar.{chars_last}
use Rattle.code_points.proofs.LostEnds.{front_empty, back_empty, front_ascii, back_ascii, front_kept, back_kept, front_lost, back_lost, front_inside, back_inside}
use Rattle.escape.specs.Values.{lost_text, Cuts, ascii_end, ascii_ends}

end_lost : (g : Bytes) → is_lost g ≡ true → end_form g ≡ lost_text g
unfolding end_form lost_text
end_lost [] h = clash h (sym (lost_empty [] refl))
end_lost (b ∷ t) h = rw h refl

-- no bytes stand for no character, and a character is written in six
lost_nothing : (g : Bytes) → length g ≡ 0 → lost_text g ≡ []
unfolding lost_text
lost_nothing [] h = refl
lost_nothing (b ∷ t) h = absurd (omega arith)

lost_is : (g : Bytes) → (length g ≡ 0 → ⊥) → lost_text g ≡ unicode_escape (code_point g)
unfolding lost_text
lost_is [] h = absurd (h refl)
lost_is (b ∷ t) h = refl

pub lost_none : (g : Bytes) → length g ≡ 0 → length (lost_text g) ≡ 0
lost_none g h = ap length (lost_nothing g h)

pub lost_six : (g : Bytes) → (length g ≡ 0 → ⊥) → length (lost_text g) ≡ 6
unfolding unicode_escape
lost_six g h = ap length (lost_is g h)

-- an end put into a slice, or nothing
pub nothing_put : (g : Bytes) (at : ℕ) (out : Bytes) → length g ≡ 0 → (at ≡ at + length (lost_text g)) × (out ≡ pasted at (lost_text g) out)
nothing_put g at out h = (omega (arith, lost_none g h), sym (ap (λ (t : Bytes). pasted at t out) (lost_nothing g h) ∙ pasted_nil at out))

pub lost_put : (g : Bytes) (at to : ℕ) (out put : Bytes) → (length g ≡ 0 → ⊥) → to ≡ at + 6 → put ≡ pasted at (unicode_escape (code_point g)) out
    → (to ≡ at + length (lost_text g)) × (put ≡ pasted at (lost_text g) out)
lost_put g at to out put h e p = (omega (arith, lost_six g h), p ∙ ap (λ (t : Bytes). pasted at t out) (sym (lost_is g h)))

-- a first character that is not lost is written as those between, and so is a last one
forms_kept : (gs : List Bytes) → lost_front gs ≡ 0 → value_forms gs ≡ last_forms gs
unfolding value_forms last_forms
forms_kept [] z = refl
forms_kept (g ∷ gs) z = forms_last g gs (front_kept g gs z)

last_kept : (gs : List Bytes) → lost_back gs ≡ 0 → last_forms gs ≡ texts escape_char gs
unfolding last_forms texts
last_kept [] z = refl
last_kept (g ∷ gs) z = last_escape g gs (back_kept g gs z)

last_lost : (gs : List Bytes) (g : Bytes) → is_lost g ≡ true → last_forms (gs ++ (g ∷ [])) ≡ texts escape_char gs ++ lost_text g
unfolding last_forms texts
last_lost [] g h = end_lost g h
last_lost (x ∷ []) g h = rw (append-nil (escape_char x)) (ap (λ (y : Bytes). escape_char x ++ y) (end_lost g h))
last_lost (x ∷ y ∷ gs) g h =
    ap (λ (z : Bytes). escape_char x ++ z) (last_lost (y ∷ gs) g h) ∙ sym (append_assoc (escape_char x) (texts escape_char (y ∷ gs)) (lost_text g))

front_part : (v : Bytes) (f : ℕ) → f ≡ lost_front (chars v) → value_text v ≡ lost_text (take f v) ++ last_forms (chars (drop f v))
unfolding value_text value_forms
front_part v f e = ⊎_elim some none (below 0 f)
  where
    some : 0 < f → value_forms (chars v) ≡ lost_text (take f v) ++ last_forms (chars (drop f v))
    some l =
        let h : is_lost (take f v) ≡ true = rw e (front_lost v (omega arith)) in
        ap value_forms (ap chars (sym (take-append-drop f v)) ∙ chars_whole (take f v) (drop f v) (lost_whole (take f v) h))
        ∙ ap (λ (x : Bytes). x ++ last_forms (chars (drop f v))) (end_lost (take f v) h)

    none : f ≤ 0 → value_forms (chars v) ≡ lost_text (take f v) ++ last_forms (chars (drop f v))
    none l = let z : f ≡ 0 = omega arith in rw (z, lost_nothing [] refl) (forms_kept (chars v) (sym e ∙ z))

back_part : (u : Bytes) (b : ℕ) → b ≡ lost_back (chars u) → last_forms (chars u) ≡ escape (take (length u - b) u) ++ lost_text (drop (length u - b) u)
unfolding escape
back_part u b e = ⊎_elim some none (below 0 b)
  where
    some : 0 < b → last_forms (chars u) ≡ texts escape_char (chars (take (length u - b) u)) ++ lost_text (drop (length u - b) u)
    some l =
        let m = length u - b in
        let h : is_lost (drop m u) ≡ true = rw e (back_lost u (omega arith)) in
        ap last_forms (ap chars (sym (take-append-drop m u)) ∙ chars_last (take m u) (drop m u) (lost_whole (drop m u) h))
        ∙ last_lost (chars (take m u)) (drop m u) h

    none : b ≤ 0 → last_forms (chars u) ≡ texts escape_char (chars (take (length u - b) u)) ++ lost_text (drop (length u - b) u)
    none l =
        let z : length u - b ≡ length u = omega arith in
        rw (z, take-length u, drop-length u, lost_nothing [] refl) (last_kept (chars u) (omega arith) ∙ sym (append-nil (texts escape_char (chars u))))

-- where the ends are cut off
pub cuts : (v : Bytes) (f b : ℕ) → f ≡ lost_front (chars v) → b ≡ lost_back (chars (drop f v)) → Cuts v f (length v - b)
cuts v f b e k =
    let rest = drop f v in
    let i : f ≤ length v = omega (arith, front_inside v) in
    let j : b ≤ length v - f = omega (arith, back_inside rest, length-drop f v) in
    let n : length rest - b ≡ length v - b - f = omega (arith, length-drop f v) in
    let m : f + (length v - b - f) ≡ length v - b = omega arith in
    record {
      ordered = omega arith;
      inside = omega arith;
      parts =
          front_part v f e
          ∙ ap (λ (x : Bytes). lost_text (take f v) ++ x) (back_part rest b k)
          ∙ ap (λ (x : ℕ). lost_text (take f v) ++ (escape (take x rest) ++ lost_text (drop x rest))) n
          ∙ ap (λ (x : Bytes). lost_text (take f v) ++ (escape (take (length v - b - f) rest) ++ lost_text x)) (drop-drop (length v - b - f) f v)
          ∙ ap (λ (x : ℕ). lost_text (take f v) ++ (escape (take (length v - b - f) rest) ++ lost_text (drop x v))) m;
    }

pub same_cuts : (v : Bytes) {f f2 e e2 : ℕ} → f2 ≡ f → e2 ≡ e → Cuts v f e → Cuts v f2 e2
same_cuts v {f} {f2} {e} {e2} p q c = subst (λ (x : ℕ). Cuts v x e2) (sym p) (subst (λ (x : ℕ). Cuts v f x) (sym q) c)

-- the parts, the last as the code takes it; and their lengths
module _ {v : Bytes} {f e : ℕ} (c : Cuts v f e) where
  cut_parts : value_text v ≡ lost_text (take f v) ++ (escape (take (e - f) (drop f v)) ++ lost_text (take (length v - e) (drop e v)))
  cut_parts = c.parts ∙ ap (λ (x : Bytes). lost_text (take f v) ++ (escape (take (e - f) (drop f v)) ++ lost_text x)) (sym (rest_is v e))

  pub cut-lengths :
      length (value_text v)
      ≡ length (lost_text (take f v)) + (length (escape (take (e - f) (drop f v))) + length (lost_text (take (length v - e) (drop e v))))
  cut-lengths = ap length cut_parts ∙ simp length-append refl

-- an ASCII byte other than the space
record Ascii (b : ℕ) : Type 0 where
  low : b < 128
  no_space : b ≡ 0x20 → ⊥

ascii_byte : (b : ℕ) → ascii_end b ≡ true → Ascii b
unfolding ascii_end
ascii_byte b h =
    record {
      low = ltb-true b 128 (and_right (not (eqb b 0x20)) (ltb b 128) h);
      no_space = eqb-false b 0x20 (not-true (eqb b 0x20) (and_left (not (eqb b 0x20)) (ltb b 128) h));
    }

-- where they are, nothing is cut off
pub ascii_cuts : (v : Bytes) → ascii_ends v ≡ true → Cuts v 0 (length v)
unfolding ascii_ends
ascii_cuts v h = ⊎_elim some none (below 0 (length v))
  where
    kept : 0 ≡ lost_front (chars v) → 0 ≡ lost_back (chars v) → Cuts v 0 (length v)
    kept f b = subst (Cuts v 0) (omega arith) (cuts v 0 0 f b)

    some : 0 < length v → Cuts v 0 (length v)
    some l =
        let first = ascii_end (get_or v 0 0) in
        let last = ascii_end (get_or v (length v - 1) 0) in
        let both : (first && last) ≡ true = rw (ne_eqb (length v) 0 (λ z. absurd (omega arith))) at h in
        let f = ascii_byte (get_or v 0 0) (and_left first last both) in
        let b = ascii_byte (get_or v (length v - 1) 0) (and_right first last both) in
        kept (front_ascii v l f.low f.no_space) (back_ascii v l b.low b.no_space)

    none : length v ≤ 0 → Cuts v 0 (length v)
    none l = kept (front_empty v (omega arith)) (back_empty v (omega arith))
