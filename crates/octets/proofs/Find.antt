-- What `find_byte` gives: the place of the first c, before which `up_to` and behind which `past` stand. Assumes nothing.
use Rattle.std.specs.Prelude.{if◌then◌else◌}
use Prim.Native.Nat.{ℕ, zero, suc, ◌+◌, ◌≤◌}
use mathlib.Core.Path.{◌≡◌, refl, sym, ap, ◌∙◌}
use mathlib.Core.Bool.{Bool, true, false, ◌||◌}
use mathlib.Core.Logic.{◌⊎◌, inl, inr, ⊎_elim}
use mathlib.Core.List.{[], ◌∷◌}
use native.Mathlib.Numerals.{add-one}
use native.Mathlib.Omega.{arith}
use lib.Dec.{eqb, ltb}
use lib.ListN.{length, take, drop, length-take}
use borrow.Author.Tests.{lt-ltb, le-ltb, ltb-true, ltb-false}
use Rattle.format.proofs.Lists.{bcase, eqb_sym, or_false_left, or_false_right}
use Rattle.std.specs.List.{position_or_len, position}
use Rattle.std.specs.Option.{unwrap_or}
use Rattle.std.proofs.Common.{Option, nat_lt}
use Rattle.std.proofs.lemmas.List.Recursion.{is_position_or_len}
use Rattle.std.specs.Prelude.{nat_eq, cond}
use Rattle.format.specs.Bytes.{Bytes, any, has, up_to, past}

-- the part before it, by the place
take_up_to : (c : ℕ) (s : Bytes) → take (length (up_to c s)) s ≡ up_to c s
unfolding up_to
take_up_to c [] = refl
take_up_to c (b ∷ s) = go (eqb c b) (take_up_to c s)
  where
    go : (x : Bool) → take (length (up_to c s)) s ≡ up_to c s → take (length (if x then [] else b ∷ up_to c s)) (b ∷ s) ≡ (if x then [] else b ∷ up_to c s)
    go true e = refl
    go false e = ap (λ (l : Bytes). b ∷ l) e

drop_past : (c : ℕ) (s : Bytes) → drop (length (up_to c s) + 1) s ≡ past c s
unfolding up_to past
drop_past c [] = refl
drop_past c (b ∷ s) = rw (add-one (length (up_to c (b ∷ s)))) (go (eqb c b) (rw (add-one (length (up_to c s))) at (drop_past c s)))
  where
    go : (x : Bool) → drop (suc (length (up_to c s))) s ≡ past c s → drop (length (if x then [] else b ∷ up_to c s)) s ≡ (if x then s else past c s)
    go true e = refl
    go false e = e

up_to_within : (c : ℕ) (s : Bytes) → length (up_to c s) ≤ length s
up_to_within c s = omega (arith, length-take (length (up_to c s)) s, ap length (take_up_to c s))

ltb_suc : (m n : ℕ) → ltb (suc m) (suc n) ≡ ltb m n
ltb_suc m n =
    ⊎_elim
    (λ h. lt-ltb (suc m) (suc n) (omega (arith, ltb-true m n h)) ∙ sym h)
    (λ h. le-ltb (suc m) (suc n) (omega (arith, ltb-false m n h)) ∙ sym h)
    (bcase (ltb m n))

has_place : (c : ℕ) (s : Bytes) → has c s ≡ ltb (length (up_to c s)) (length s)
unfolding any up_to
has_place c [] = refl
has_place c (b ∷ s) = go (eqb c b) (has_place c s)
  where
    go : (x : Bool) → has c s ≡ ltb (length (up_to c s)) (length s) → (x || has c s) ≡ ltb (length (if x then [] else b ∷ up_to c s)) (length (b ∷ s))
    go true e = sym (lt-ltb 0 (suc (length s)) (omega arith))
    go false e = e ∙ sym (ltb_suc (length (up_to c s)) (length s))

-- r is what `find_byte` gives
module _ (c : ℕ) (s : Bytes) (r : ℕ) (found : r ≡ length (up_to c s)) where
  pub found_within : r ≤ length s
  found_within = rw found (up_to_within c s)

  pub found_up_to : up_to c s ≡ take r s
  found_up_to = rw found (sym (take_up_to c s))

  pub found_past : past c s ≡ drop (r + 1) s
  found_past = rw found (sym (drop_past c s))

  pub found_has : has c s ≡ ltb r (length s)
  found_has = rw found (has_place c s)

-- n bytes without a c are passed over
pub up_to_skip : (c n : ℕ) (t : Bytes) → n ≤ length t → has c (take n t) ≡ false → length (up_to c t) ≡ n + length (up_to c (drop n t))
unfolding any up_to
up_to_skip c zero t h e = omega arith
up_to_skip c (suc n) [] h e = absurd (omega arith)
up_to_skip c (suc n) (b ∷ t) h e =
    let f = up_to_skip c n t (omega arith) (or_false_right (eqb c b) (has c (take n t)) e) in
    rw (or_false_left (eqb c b) (has c (take n t)) e) (omega arith)

-- as the library finds it
pub up_to_position : (c : ℕ) (s : Bytes) → length (up_to c s) ≡ position_or_len (λ b. nat_eq b c) s
unfolding up_to
up_to_position c = is_position_or_len (λ s. length (up_to c s)) (λ b. nat_eq b c) refl (λ b s. rw (eqb_sym c b) (go (nat_eq b c) b s))
  where
    go : (x : Bool) (b : ℕ) (s : Bytes) → length (if x then [] else b ∷ up_to c s) ≡ cond x 0 (1 + length (up_to c s))
    go true b s = refl
    go false b s = omega arith

pub up_to_found_at : (c : ℕ) (s : Bytes) (r : Option ℕ) → r ≡ position (λ b. nat_eq b c) s → unwrap_or r (length s) ≡ length (up_to c s)
up_to_found_at c s r e =
    let p = up_to_position c s in
    ap (λ o. unwrap_or o (length s)) e ∙ go (bcase (nat_lt n (length s))) ∙ sym p
  where
    n : ℕ
    n = position_or_len (λ b. nat_eq b c) s

    go : (nat_lt n (length s) ≡ true) ⊎ (nat_lt n (length s) ≡ false) → unwrap_or (position (λ b. nat_eq b c) s) (length s) ≡ n
    go (inl h) = rw h refl
    go (inr h) = rw h (omega (arith, ltb-false n (length s) h, up_to_position c s, up_to_within c s))
