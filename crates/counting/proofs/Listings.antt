-- How the strings are listed does not matter: where each string stands in two lists equally often, as many pass any test. What is equal to the
-- first string of one list is taken out of the other, and so on. Assumes nothing.
use Rattle.std.specs.Prelude.{if◌then◌else◌}
use Prim.Native.Nat.{ℕ, ◌+◌, ◌<◌}
use mathlib.Core.Path.{◌≡◌, refl, sym, ap, ◌∙◌}
use mathlib.Core.Bool.{Bool, true, false}
use mathlib.Core.Logic.{⊎_elim}
use mathlib.Core.List.{List, [], ◌∷◌}
use native.Mathlib.Omega.{arith}
use Rattle.format.specs.Bytes.{Bytes, total, same}
use Rattle.format.proofs.Lists.{bcase, same_eq, same_refl}
use Rattle.counting.specs.Strings.{strings, is_string, one_if, how_many, string_count}
use Rattle.counting.proofs.Strings.{count_once}

-- one string of those equal to x taken out
unfoldable one_less : Bytes → List Bytes → List Bytes
one_less x [] = []
one_less x (y ∷ ys) = if same x y then ys else y ∷ one_less x ys

-- what is left when x, which stands there, is taken out
taken_out : (p : Bytes → Bool) (x : Bytes) (ys : List Bytes) → 0 < how_many (same x) ys → how_many p ys ≡ one_if (p x) + how_many p (one_less x ys)
unfolding how_many total one_less
taken_out p x [] h = absurd (omega arith)
taken_out p x (y ∷ ys) h = ⊎_elim here (later (λ k. taken_out p x ys k)) (bcase (same x y))
  where
    here : same x y ≡ true → one_if (p y) + how_many p ys ≡ one_if (p x) + how_many p (if same x y then ys else y ∷ one_less x ys)
    here t = rw (t, same_eq x y t) refl

    later :
        (0 < how_many (same x) ys → how_many p ys ≡ one_if (p x) + how_many p (one_less x ys))
        → same x y ≡ false
        → one_if (p y) + how_many p ys ≡ one_if (p x) + how_many p (if same x y then ys else y ∷ one_less x ys)
    later more f = rw f (omega (arith, more (omega (arith, ap one_if f))))

first_stands : (x : Bytes) (xs : List Bytes) → 0 < how_many (same x) (x ∷ xs)
unfolding how_many total
first_stands x xs = rw (same_refl x) (omega arith)

same_counts : (xs ys : List Bytes) → ((s : Bytes) → how_many (same s) xs ≡ how_many (same s) ys) → (p : Bytes → Bool) → how_many p xs ≡ how_many p ys
unfolding how_many total
same_counts [] [] h p = refl
same_counts [] (y ∷ ys) h p = absurd (omega (arith, h y, first_stands y ys))
same_counts (x ∷ xs) ys h p =
    let stands : 0 < how_many (same x) ys = omega (arith, h x, first_stands x xs) in
    omega (arith, taken_out p x ys stands, same_counts xs (one_less x ys) (λ s. omega (arith, h s, taken_out (same s) x ys stands)) p)

pub any_listing : (n : ℕ) (ss : List Bytes) → ((s : Bytes) → how_many (same s) ss ≡ one_if (is_string n s)) → (p : Bytes → Bool) → how_many p ss ≡ string_count p n
any_listing n ss h p = same_counts ss (strings n) (λ s. h s ∙ sym (count_once n s)) p
