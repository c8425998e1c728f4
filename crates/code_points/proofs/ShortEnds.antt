-- A test that only well-formed characters of at most three bytes pass: three prefixes and three suffixes of a text decide whether its
-- first or its last character passes. Assumes nothing.
use Prim.Native.Nat.{ℕ, zero, suc, ◌+◌, ◌-◌, ◌≤◌, ◌<◌}
use mathlib.Core.Path.{◌≡◌, sym, ap, subst, ◌∙◌}
use mathlib.Core.Bool.{Bool, true, false, false≢true}
use mathlib.Core.Logic.{⊎_elim}
use mathlib.Core.List.{List, [], ◌∷◌, ◌++◌, append_assoc, append-nil}
use native.Mathlib.Omega.{arith}
use lib.ListN.{length, take, drop, length-append, length-take}
use lib.Seq.{drop-append_seam}
use Rattle.format.specs.Bytes.{Bytes, texts}
use Rattle.format.specs.Characters.{chars, flat, well_formed, last_of}
use Rattle.format.proofs.Lists.{bcase, clash}
use Rattle.format.proofs.Characters.Chars.{flat_chars}
use Rattle.characters.specs.Lengths.{subpart_len}
use Rattle.characters.proofs.Utf8End.{subpart_inside, subpart_some}

-- A text ends with the last of its characters.
pub record Ending (u g : Bytes) : Type 0 where
  pub before : Bytes
  pub joined : u ≡ before ++ g

pub ending : (g : Bytes) (gs : List Bytes) → Ending (flat (g ∷ gs)) (last_of g gs)
unfolding texts last_of
ending g [] = record { before = []; joined = append-nil g }
ending g (h ∷ hs) =
    let r = ending h hs in
    record { before = g ++ r.before; joined = ap (λ (x : Bytes). g ++ x) r.joined ∙ sym (append_assoc g r.before (last_of h hs)) }

-- a character has a byte
pub whole_some : (g : Bytes) → well_formed g ≡ true → 0 < length g
whole_some [] w = absurd (false≢true (unfold well_formed in w))
whole_some (x ∷ g) w = omega arith

module _ (p : Bytes → Bool) (whole : (g : Bytes) → p g ≡ true → well_formed g ≡ true) (short : (g : Bytes) → p g ≡ true → length g ≤ 3) (u : Bytes) where
  pub first_fails : 0 < length u → p (take 1 u) ≡ false → (2 ≤ length u → p (take 2 u) ≡ false) → (3 ≤ length u → p (take 3 u) ≡ false)
      → p (take (subpart_len u) u) ≡ false
  first_fails h a b c = dark (subpart_len u) (subpart_some u h) (subpart_inside u)
    where
      dark : (n : ℕ) → 0 < n → n ≤ length u → p (take n u) ≡ false
      dark zero l m = absurd (omega arith)
      dark (suc zero) l m = a
      dark (suc (suc zero)) l m = b m
      dark (suc (suc (suc zero))) l m = c m
      dark (suc (suc (suc (suc n)))) l m =
          let g = take (suc (suc (suc (suc n)))) u in
          ⊎_elim
          (λ w. absurd (omega (arith, short g w, length-take (suc (suc (suc (suc n)))) u)))
          (λ w. w)
          (bcase (p g))

  pub last_fails : p (drop (length u - 1) u) ≡ false → (2 ≤ length u → p (drop (length u - 2) u) ≡ false) → (3 ≤ length u → p (drop (length u - 3) u) ≡ false)
      → (g : Bytes) (gs : List Bytes) → chars u ≡ g ∷ gs → p (last_of g gs) ≡ false
  last_fails a b c g gs e = ends_dark (last_of g gs) (subst (λ (x : Bytes). Ending x (last_of g gs)) (ap flat (sym e) ∙ flat_chars u) (ending g gs))
    where
      dark : (n : ℕ) → 0 < n → n ≤ 3 → n ≤ length u → p (drop (length u - n) u) ≡ false
      dark zero l m k = absurd (omega arith)
      dark (suc zero) l m k = a
      dark (suc (suc zero)) l m k = b k
      dark (suc (suc (suc zero))) l m k = c k
      dark (suc (suc (suc (suc n)))) l m k = absurd (omega arith)

      ends_dark : (g : Bytes) → Ending u g → p g ≡ false
      ends_dark g r =
          let front = r.before in
          let len : length u ≡ length front + length g = ap length r.joined ∙ length-append front g in
          ⊎_elim
          (λ w.
          let n : length u - length g ≡ length front = omega arith in
          let d : drop (length u - length g) u ≡ g = rw n (ap (drop (length front)) r.joined ∙ drop-append_seam front g) in
          clash w (sym (ap p d) ∙ dark (length g) (whole_some g (whole g w)) (short g w) (omega arith)))
          (λ w. w)
          (bcase (p g))
