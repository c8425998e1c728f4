-- Strings counted: by their first byte, by tests that agree, by tests of which one passes, and by a test of the front beside a test of the
-- rest, whose counts multiply. Assumes nothing.
use Prim.Native.Nat.{ℕ, zero, suc, ◌+◌, ◌*◌, ◌^◌}
use mathlib.Core.Path.{◌≡◌, refl, sym, ap, ◌∙◌}
use mathlib.Core.Bool.{Bool, true, false, ◌&&◌}
use mathlib.Core.Logic.{⊎_elim}
use mathlib.Core.List.{List, [], ◌∷◌, map}
use native.Mathlib.Omega.{arith}
use native.Mathlib.Nat.{zero-mul, add-mul, one-mul, zero-add, suc-mul, pow-succ'}
use lib.Dec.{ltb, eqb, eqb-zero-suc, eqb-suc-zero, eqb-suc-suc}
use lib.ListN.{length, take, drop, length-append, length-map}
use borrow.Author.Tests.{ltb-true, ltb-false, eqb-true, eqb-false, ne_eqb, lt-ltb, le-ltb}
use Rattle.format.specs.Bytes.{Bytes, all, total, same}
use Rattle.format.proofs.Lists.{bcase, total_same, total_append}
use Rattle.counting.specs.Strings.{numbers_below, prefixed, strings, is_string, one_if, how_many, string_count}

-- Sums.
module _ {A : Type 0} where
  total_plus : (f g : A → ℕ) (xs : List A) → total (λ x. f x + g x) xs ≡ total f xs + total g xs
  unfolding total
  total_plus f g [] = refl
  total_plus f g (x ∷ xs) = omega (arith, total_plus f g xs)

  total_times : (f : A → ℕ) (k : ℕ) (xs : List A) → total (λ x. f x * k) xs ≡ total f xs * k
  unfolding total
  total_times f k [] = sym (zero-mul k)
  total_times f k (x ∷ xs) = rw (total_times f k xs) (sym (add-mul (f x) (total f xs) k))

  total_map : {B : Type 0} (f : B → ℕ) (g : A → B) (xs : List A) → total f (map g xs) ≡ total (λ x. f (g x)) xs
  unfolding total
  total_map f g [] = refl
  total_map f g (x ∷ xs) = ap (◌+◌ (f (g x))) (total_map f g xs)

  total_ones : (xs : List A) → total (λ x. 1) xs ≡ length xs
  unfolding total
  total_ones [] = refl
  total_ones (x ∷ xs) = omega (arith, total_ones xs)

total_prefixed : (f : Bytes → ℕ) (bs : List ℕ) (ss : List Bytes) → total f (prefixed bs ss) ≡ total (λ b. total (λ s. f (b ∷ s)) ss) bs
unfolding prefixed total
total_prefixed f [] ss = refl
total_prefixed f (b ∷ bs) ss =
    total_append f (map (λ s. b ∷ s) ss) (prefixed bs ss) ∙ rw (total_map f (λ (s : Bytes). b ∷ s) ss, total_prefixed f bs ss) refl

-- by the first byte
pub count_first : (p : Bytes → Bool) (n : ℕ) → string_count p (suc n) ≡ total (λ b. string_count (λ s. p (b ∷ s)) n) (numbers_below 128)
unfolding how_many strings
count_first p n = total_prefixed (λ s. one_if (p s)) (numbers_below 128) (strings n)

pub count_zero : (p : Bytes → Bool) → string_count p 0 ≡ one_if (p [])
unfolding how_many strings total
count_zero p = omega arith

-- tests that agree on the strings of a length
pub count_same : (n : ℕ) (p q : Bytes → Bool) → ((s : Bytes) → length s ≡ n → p s ≡ q s) → string_count p n ≡ string_count q n
count_same zero p q h = count_zero p ∙ ap one_if (h [] refl) ∙ sym (count_zero q)
count_same (suc n) p q h =
    count_first p n
    ∙ total_same (λ b. string_count (λ s. p (b ∷ s)) n) (λ b. string_count (λ s. q (b ∷ s)) n)
    (λ b. count_same n (λ s. p (b ∷ s)) (λ s. q (b ∷ s)) (λ s e. h (b ∷ s) (ap suc e))) (numbers_below 128)
    ∙ sym (count_first q n)

pub count_none : (n : ℕ) (p : Bytes → Bool) → ((s : Bytes) → length s ≡ n → p s ≡ false) → string_count p n ≡ 0
unfolding how_many total
count_none n p h = count_same n p (λ s. false) h ∙ never (strings n)
  where
    never : (ss : List Bytes) → how_many (λ s. false) ss ≡ 0
    never [] = refl
    never (s ∷ ss) = omega (arith, never ss)

-- a test that passes where one of two others does
pub count_either : (n : ℕ) (p q r : Bytes → Bool) → ((s : Bytes) → one_if (r s) ≡ one_if (p s) + one_if (q s)) → string_count r n ≡ string_count p n + string_count q n
unfolding how_many
count_either n p q r h =
    total_same (λ s. one_if (r s)) (λ s. one_if (p s) + one_if (q s)) h (strings n) ∙ total_plus (λ s. one_if (p s)) (λ s. one_if (q s)) (strings n)

-- a test that does not look at the string beside one that does
count_and : (x : Bool) (q : Bytes → Bool) (n : ℕ) → string_count (λ s. x && q s) n ≡ one_if x * string_count q n
count_and true q n = sym (one-mul (string_count q n))
count_and false q n = count_none n (λ s. false) (λ s e. refl) ∙ sym (zero-mul (string_count q n))

-- a test of the first k bytes beside a test of the others
pub count_both : (k n m : ℕ) → m ≡ k + n → (p q : Bytes → Bool) → string_count (λ s. p (take k s) && q (drop k s)) m ≡ string_count p k * string_count q n
count_both zero n m e p q = rw (e, zero-add n, count_zero p) (count_and (p []) q n)
count_both (suc k) n zero e p q = absurd (omega arith)
count_both (suc k) n (suc m) e p q =
    count_first (λ s. p (take (suc k) s) && q (drop (suc k) s)) m
    ∙ total_same (λ b. string_count (λ s. p (b ∷ take k s) && q (drop k s)) m) (λ b. string_count (λ s. p (b ∷ s)) k * string_count q n)
    (λ b. count_both k n m (omega arith) (λ s. p (b ∷ s)) q) (numbers_below 128)
    ∙ total_times (λ b. string_count (λ s. p (b ∷ s)) k) (string_count q n) (numbers_below 128)
    ∙ ap (λ (m : ℕ). m * string_count q n) (sym (count_first p k))

-- all of them
bytes_length : (n : ℕ) → length (numbers_below n) ≡ n
unfolding numbers_below
bytes_length zero = refl
bytes_length (suc n) = length-append (numbers_below n) (n ∷ []) ∙ omega (arith, bytes_length n)

prefixed_length : (bs : List ℕ) (ss : List Bytes) → length (prefixed bs ss) ≡ length bs * length ss
unfolding prefixed
prefixed_length [] ss = sym (zero-mul (length ss))
prefixed_length (b ∷ bs) ss =
    length-append (map (λ s. b ∷ s) ss) (prefixed bs ss) ∙ rw (length-map ss (λ (s : Bytes). b ∷ s), prefixed_length bs ss, suc-mul (length bs) (length ss)) (omega arith)

pub strings_length : (n : ℕ) → length (strings n) ≡ 128 ^ n
unfolding strings
strings_length zero = refl
strings_length (suc n) = prefixed_length (numbers_below 128) (strings n) ∙ rw (bytes_length 128, strings_length n) (sym (pow-succ' 128 n))

pub count_all : (p q : Bytes → Bool) (n : ℕ) → ((s : Bytes) → one_if (p s) + one_if (q s) ≡ 1) → string_count p n + string_count q n ≡ 128 ^ n
unfolding how_many
count_all p q n h =
    sym (total_plus (λ s. one_if (p s)) (λ s. one_if (q s)) (strings n))
    ∙ total_same (λ s. one_if (p s) + one_if (q s)) (λ s. 1) h (strings n)
    ∙ total_ones (strings n)
    ∙ strings_length n

-- Each string of n ASCII bytes stands in the list once.

-- a number is among those below n once, where it is below n
below_once : (c n : ℕ) → total (λ b. one_if (eqb c b)) (numbers_below n) ≡ one_if (ltb c n)
unfolding numbers_below total
below_once c zero = rw (le-ltb c 0 (omega arith)) refl
below_once c (suc n) =
    total_append (λ b. one_if (eqb c b)) (numbers_below n) (n ∷ []) ∙ rw (below_once c n) (⊎_elim lower (λ f. ⊎_elim (here f) (above f) (bcase (eqb c n))) (bcase (ltb c n)))
  where
    lower : ltb c n ≡ true → one_if (ltb c n) + (one_if (eqb c n) + 0) ≡ one_if (ltb c (suc n))
    lower t = rw (t, ne_eqb c n (λ e. omega (arith, ltb-true c n t)), lt-ltb c (suc n) (omega (arith, ltb-true c n t))) refl

    here : ltb c n ≡ false → eqb c n ≡ true → one_if (ltb c n) + (one_if (eqb c n) + 0) ≡ one_if (ltb c (suc n))
    here f t = rw (f, t, lt-ltb c (suc n) (omega (arith, eqb-true c n t))) refl

    above : ltb c n ≡ false → eqb c n ≡ false → one_if (ltb c n) + (one_if (eqb c n) + 0) ≡ one_if (ltb c (suc n))
    above f d = rw (f, d, le-ltb c (suc n) (omega (arith, ltb-false c n f, eqb-false c n d))) refl

pub count_once : (n : ℕ) (s : Bytes) → string_count (same s) n ≡ one_if (is_string n s)
unfolding is_string all same
count_once zero [] = count_zero (same [])
count_once zero (c ∷ s) = count_zero (same (c ∷ s)) ∙ rw (eqb-suc-zero (length s)) refl
count_once (suc n) [] = count_none (suc n) (same []) (λ t e. empty t e) ∙ rw (eqb-zero-suc n) refl
  where
    empty : (t : Bytes) → length t ≡ suc n → same [] t ≡ false
    empty [] e = absurd (omega arith)
    empty (b ∷ t) e = refl
count_once (suc n) (c ∷ s) =
    count_first (same (c ∷ s)) n
    ∙ total_same (λ b. string_count (λ t. eqb c b && same s t) n) (λ b. one_if (eqb c b) * string_count (same s) n) (λ b. count_and (eqb c b) (same s) n) (numbers_below 128)
    ∙ total_times (λ b. one_if (eqb c b)) (string_count (same s) n) (numbers_below 128)
    ∙ rw (below_once c 128, count_once n s, eqb-suc-suc (length s) n) (product (ltb c 128) (eqb (length s) n) (all (λ b. ltb b 128) s))
  where
    product : (x y z : Bool) → one_if x * one_if (y && z) ≡ one_if (y && (x && z))
    product true true true = refl
    product true true false = refl
    product true false z = refl
    product false true z = zero-mul (one_if z)
    product false false z = refl
