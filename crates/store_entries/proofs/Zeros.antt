-- Zeros. Assumes nothing.
use Prim.Native.Nat.{ℕ, zero, suc}
use mathlib.Core.Path.{◌≡◌, refl, sym}
use mathlib.Core.Bool.{true}
use mathlib.Core.List.{[], ◌∷◌}
use lib.Dec.{eqb}
use lib.ListN.{length, replicate}
use borrow.Author.Tests.{eqb-true}
use Rattle.format.specs.Bytes.{Bytes, all}
use Rattle.format.proofs.Lists.{eqb_sym, all_head, all_tail}

-- zeros are zeros
pub all_zero : (s : Bytes) → all (eqb 0) s ≡ true → s ≡ replicate (length s) 0
all_zero [] h = refl
all_zero (b ∷ s) h = λ i. sym (eqb-true 0 b (all_head (eqb 0) b s h)) i ∷ all_zero s (all_tail (eqb 0) b s h) i

pub all_flipped : (s : Bytes) → all (λ b. eqb b 0) s ≡ all (eqb 0) s
unfolding all
all_flipped [] = refl
all_flipped (b ∷ s) = rw (eqb_sym b 0, all_flipped s) refl

pub zero_all : (n : ℕ) → all (eqb 0) (replicate n 0) ≡ true
unfolding all
zero_all zero = refl
zero_all (suc n) = zero_all n
