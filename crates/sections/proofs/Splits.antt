-- A text split at one byte: the first part is what stands before the first of them, and the other parts are those of what stands
-- behind it. Assumes nothing.
use Rattle.std.specs.Prelude.{if◌then◌else◌}
use Prim.Native.Nat.{ℕ}
use mathlib.Core.Path.{◌≡◌, refl, sym, ap, ◌∙◌}
use mathlib.Core.Bool.{true, false}
use mathlib.Core.List.{[], ◌∷◌}
use mathlib.Core.Logic.{⊎_elim}
use Rattle.format.specs.Bytes.{Bytes, has, up_to, past, Pieces, pieces, split}
use Rattle.format.proofs.Lists.{bcase}
use Rattle.format.proofs.Splitting.Split.{split_line, split_none, occurs_clear, up_to_past, up_to_clear, up_to_none}

module _ (c : ℕ) (s : Bytes) where
  split_more : has c s ≡ true → split (c ∷ []) s ≡ record { first = up_to c s; rest = pieces (split (c ∷ []) (past c s)) }
  split_more h = ap (split (c ∷ [])) (up_to_past c s h) ∙ split_line c [] (up_to c s) (past c s) (up_to_clear c s)

  split_whole : has c s ≡ false → split (c ∷ []) s ≡ record { first = up_to c s; rest = [] }
  split_whole h = split_none (c ∷ []) s (occurs_clear c [] s h) ∙ rw (up_to_none c s h) refl

  pub split_first : (split (c ∷ []) s).first ≡ up_to c s
  split_first =
      ⊎_elim (λ h. ap (λ (p : Pieces). p.first) (split_more h)) (λ h. ap (λ (p : Pieces). p.first) (split_whole h)) (bcase (has c s))

  pub split_others : (split (c ∷ []) s).rest ≡ (if has c s then pieces (split (c ∷ []) (past c s)) else [])
  split_others =
      ⊎_elim (λ h. ap (λ (p : Pieces). p.rest) (split_more h) ∙ rw h refl) (λ h. ap (λ (p : Pieces). p.rest) (split_whole h) ∙ rw h refl) (bcase (has c s))

-- The two promises of a part r: it is what stands before the first c, or behind it.
module _ (c : ℕ) (s r : Bytes) where
  pub as_first : r ≡ up_to c s → (r ≡ up_to c s) × (r ≡ (split (c ∷ []) s).first)
  as_first h = (h, h ∙ sym (split_first c s))

  pub as_others : r ≡ past c s → (r ≡ past c s) × ((split (c ∷ []) s).rest ≡ (if has c s then pieces (split (c ∷ []) r) else []))
  as_others h = (h, rw h (split_others c s))
