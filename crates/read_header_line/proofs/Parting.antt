-- The parts of a text between `;`, one after another. Assumes nothing.
use Prim.Native.Nat.{ℕ, ◌+◌, ◌≤◌, ◌<◌}
use mathlib.Core.Path.{◌≡◌, refl, ap, ◌∙◌}
use mathlib.Core.List.{[], ◌∷◌}
use lib.ListN.{length, take, drop}
use borrow.Author.Tests.{lt-ltb, le-ltb}
use Rattle.format.specs.Bytes.{Bytes, semicolon, up_to, pieces, split}
use Rattle.octets.proofs.Find.{found_up_to, found_past, found_has}
use Rattle.sections.proofs.Splits.{split_first, split_others}

-- k is the place of the first `;`
module _ (s : Bytes) (k : ℕ) (found : k ≡ length (up_to semicolon s)) where
  pub others_more : k < length s → (split (semicolon ∷ []) s).rest ≡ pieces (split (semicolon ∷ []) (drop (k + 1) s))
  others_more h =
      split_others semicolon s
      ∙ rw (found_has semicolon s k found ∙ lt-ltb k (length s) h) (ap (λ (t : Bytes). pieces (split (semicolon ∷ []) t)) (found_past semicolon s k found))

  pub others_none : length s ≤ k → (split (semicolon ∷ []) s).rest ≡ []
  others_none h = split_others semicolon s ∙ rw (found_has semicolon s k found ∙ le-ltb k (length s) h) refl

  pub first_is : (split (semicolon ∷ []) s).first ≡ take k s
  first_is = split_first semicolon s ∙ found_up_to semicolon s k found

  pub parts_more : k < length s → pieces (split (semicolon ∷ []) s) ≡ take k s ∷ pieces (split (semicolon ∷ []) (drop (k + 1) s))
  parts_more h = λ i. first_is i ∷ others_more h i

  pub parts_last : length s ≤ k → pieces (split (semicolon ∷ []) s) ≡ take k s ∷ []
  parts_last h = λ i. first_is i ∷ others_none h i
