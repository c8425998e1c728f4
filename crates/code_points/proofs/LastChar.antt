-- A well-formed character at the back of a text is its last one: it begins with a byte that is no trailing byte, and any bytes are
-- cut before such a byte. One test that computes over the ranges of Table 3-7 carries this. Assumes nothing.
use Prim.Native.Nat.{ℕ, zero, suc, ◌≤◌, ◌<◌}
use mathlib.Core.Path.{◌≡◌, refl, sym, ap, ◌∙◌}
use mathlib.Core.Bool.{Bool, true, false, ◌&&◌, false≢true}
use mathlib.Core.Logic.{◌⊎◌, inl, inr, ⊎_elim}
use mathlib.Core.List.{List, [], ◌∷◌, ◌++◌, append-nil}
use mathlib.Core.Option.{Option, none, some}
use native.Mathlib.Omega.{arith}
use lib.Dec.{leb}
use lib.ListN.{length, take, drop, length-drop}
use lib.Seq.{take-append-le, drop-append-le}
use Rattle.format.specs.Bytes.{Bytes, all}
use Rattle.format.specs.Characters.{Range, within, table_3_7, trail_of, matched, matched_some, trailing, chars, well_formed}
use Rattle.format.proofs.Lists.{all_head, all_tail}
use Rattle.format.proofs.Rulesets.{tests}
use Rattle.format.proofs.Characters.Table.{within_below, within_above, picks}
use Rattle.format.proofs.Characters.Chars.{trailing_le, chars_nil, chars_cons, chars_whole}
use Rattle.format.proofs.Characters.Shapes.{Shape, one, two, three, four, shape}

-- a range of trailing bytes
trail_range : Range → Bool
trail_range q = leb 0x80 q.first && leb q.last 0xBF

table_trails : all (λ r. all trail_range r.trail) table_3_7 ≡ true
unfolding all trail_range
table_trails = refl

-- a byte that is no trailing byte
abbrev Leads : ℕ → Type 0
Leads b = (b < 0x80) ⊎ (0xBF < b)

leads_outside : (b : ℕ) (q : Range) → Leads b → trail_range q ≡ true → within b q ≡ false
unfolding trail_range
leads_outside b q l h =
    ⊎_elim
    (λ x. within_below b q (omega (arith, simp tests at h)))
    (λ x. within_above b q (omega (arith, simp tests at h)))
    l

matched_lead : (rs : List Range) (s : Bytes) (b : ℕ) (t : Bytes) → all trail_range rs ≡ true → Leads b → matched rs (s ++ (b ∷ t)) ≡ matched rs s
unfolding matched
matched_lead [] s b t h l = refl
matched_lead (r ∷ rs) [] b t h l = rw (leads_outside b r l (all_head trail_range r rs h)) refl
matched_lead (r ∷ rs) (a ∷ s) b t h l = rw (matched_lead rs s b t (all_tail trail_range r rs h) l) refl

trailing_lead : (a : ℕ) (s : Bytes) (b : ℕ) (t : Bytes) → Leads b → trailing a (s ++ (b ∷ t)) ≡ trailing a s
trailing_lead a s b t l = go (trail_of a) refl
  where
    go : (o : Option (List Range)) → trail_of a ≡ o → matched_some o (s ++ (b ∷ t)) ≡ matched_some o s
    go none e = refl
    go (some rs) e =
        let p = picks (λ r. all trail_range r.trail) table_3_7 a rs table_trails e in
        matched_lead rs s b t (rw p.trails at p.passes) l

-- any bytes are cut before a byte that is no trailing byte
chars_lead : (k : ℕ) (s : Bytes) (b : ℕ) (t : Bytes) → length s ≤ k → Leads b → chars (s ++ (b ∷ t)) ≡ chars s ++ chars (b ∷ t)
chars_lead zero [] b t i l = rw chars_nil refl
chars_lead (suc k) [] b t i l = rw chars_nil refl
chars_lead zero (a ∷ s) b t i l = absurd (omega arith)
chars_lead (suc k) (a ∷ s) b t i l =
    let le = trailing_le a s in
    chars_cons a (s ++ (b ∷ t))
    ∙ rw
    (trailing_lead a s b t l, take-append-le (trailing a s) s (b ∷ t) le, drop-append-le (trailing a s) s (b ∷ t) le, chars_cons a s)
    (ap {B = List Bytes} (λ r. (a ∷ take (trailing a s) s) ∷ r) (chars_lead k (drop (trailing a s) s) b t (omega (arith, length-drop (trailing a s) s)) l))

lead_byte : {b : ℕ} {t : Bytes} → Shape (b ∷ t) → Leads b
lead_byte (one a x) = inl (omega arith)
lead_byte (two a b x y) = inr (omega arith)
lead_byte (three a b c x y z u v) = inr (omega arith)
lead_byte (four a b c d x y z u v) = inr (omega arith)

-- a well-formed character at the back is the last one
pub chars_last : (s g : Bytes) → well_formed g ≡ true → chars (s ++ g) ≡ chars s ++ (g ∷ [])
chars_last s [] h = absurd (nothing h)
  where
    nothing : well_formed [] ≡ true → ⊥
    nothing h = unfold well_formed in false≢true h
chars_last s (b ∷ t) h =
    chars_lead (length s) s b t (omega arith) (lead_byte (shape (b ∷ t) h))
    ∙ ap (λ (gs : List Bytes). chars s ++ gs) (ap chars (sym (append-nil (b ∷ t))) ∙ chars_whole (b ∷ t) [] h ∙ rw chars_nil refl)
