-- A byte of a class looked for by the library's methods. Assumes nothing.
use Prim.Native.Nat.{ℕ}
use mathlib.Core.Path.{◌≡◌, refl, sym, ap, ◌∙◌}
use mathlib.Core.Bool.{Bool, ◌||◌, or_assoc, or-false}
use mathlib.Core.List.{[], ◌∷◌, ◌++◌}
use Rattle.std.specs.List.{list_any}
use Rattle.format.specs.Bytes.{Bytes, any}

pub any_listed : (p : ℕ → Bool) (s : Bytes) → list_any p s ≡ any p s
unfolding any
any_listed p [] = refl
any_listed p (b ∷ s) = ap (λ (r : Bool). p b || r) (any_listed p s)

-- one byte more is searched
pub any_push : (p : ℕ → Bool) (s : Bytes) (b : ℕ) → any p (s ++ (b ∷ [])) ≡ (any p s || p b)
unfolding any
any_push p [] b = or-false (p b)
any_push p (a ∷ s) b = ap (λ (r : Bool). p a || r) (any_push p s b) ∙ sym (or_assoc (p a) (any p s) (p b))
