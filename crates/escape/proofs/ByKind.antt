-- The kinds of bytes that are not bare, of a text and of a byte. Assumes nothing.
use Prim.Native.Nat.{ℕ}
use mathlib.Core.Path.{◌≡◌, refl, sym, ap, ◌∙◌}
use mathlib.Core.Bool.{Bool, true, false, not, ◌&&◌, ◌||◌, or-true}
use mathlib.Core.List.{[], ◌∷◌}
use lib.Dec.{eqb}
use Rattle.format.specs.Bytes.{Bytes, all, any, has}
use Rattle.escape.specs.Bare.{is_low, is_bare}

or_swap : (a b c d : Bool) → ((a || b) || (c || d)) ≡ ((a || c) || (b || d))
or_swap true b c d = refl
or_swap false b true d = or-true b
or_swap false b false d = refl

any_or : (p q : ℕ → Bool) (s : Bytes) → any (λ b. p b || q b) s ≡ (any p s || any q s)
unfolding any
any_or p q [] = refl
any_or p q (b ∷ s) = rw (any_or p q s) (or_swap (p b) (q b) (any p s) (any q s))

not_or : (a b : Bool) → not (a || b) ≡ (not a && not b)
not_or true b = refl
not_or false b = refl

all_not : (p : ℕ → Bool) (s : Bytes) → all (λ b. not (p b)) s ≡ not (any p s)
unfolding all any
all_not p [] = refl
all_not p (b ∷ s) = rw (all_not p s) (sym (not_or (p b) (any p s)))

-- the kinds of bytes that are not bare, each looked for by itself
pub bare_kinds : (s : Bytes) → all is_bare s ≡ not (any is_low s || (has 34 s || (has 92 s || (has 0x7F s || has 0xC2 s))))
unfolding is_bare
bare_kinds s =
    all_not (λ b. is_low b || (eqb 34 b || (eqb 92 b || (eqb 0x7F b || eqb 0xC2 b)))) s
    ∙ ap not
    (any_or is_low (λ b. eqb 34 b || (eqb 92 b || (eqb 0x7F b || eqb 0xC2 b))) s
    ∙ ap (λ (x : Bool). any is_low s || x)
    (any_or (eqb 34) (λ b. eqb 92 b || (eqb 0x7F b || eqb 0xC2 b)) s
    ∙ ap (λ (x : Bool). has 34 s || x)
    (any_or (eqb 92) (λ b. eqb 0x7F b || eqb 0xC2 b) s ∙ ap (λ (x : Bool). has 92 s || x) (any_or (eqb 0x7F) (eqb 0xC2) s))))
