-- The form of a byte, and of the bytes at a place. Assumes nothing.
use Rattle.std.specs.Prelude.{if◌then◌else◌}
use Prim.Native.Nat.{ℕ, suc, ◌+◌, ◌≤◌, ◌<◌}
use mathlib.Core.Path.{◌≡◌, refl, sym, ap, ◌∙◌}
use mathlib.Core.Bool.{Bool, true, false, ◌&&◌}
use mathlib.Core.List.{◌∷◌}
use native.Mathlib.Numerals.{add-one}
use native.Mathlib.Omega.{arith}
use lib.Dec.{eqb}
use lib.ListN.{length, drop, get_or, drop_of_length-le}
use lib.Seq.{drop-cons}
use borrow.Author.Tests.{ne_eqb, lt-ltb, le-ltb}
use Rattle.format.specs.Bytes.{Bytes}
use Rattle.format.specs.Characters.{◌to◌, within, is_ascii_control}
use Rattle.format.specs.Escaping.{short_form}
use Rattle.format.proofs.Characters.Table.{within_intro}
use Rattle.escape.specs.Forms.{byte_form, form_of}
use Rattle.escape.specs.declared.forms.Form.TheVariants.{Raw, Long, Upper}
use Rattle.escape.proofs.Units.{form_byte}

-- a byte from 32 on that is no quote, no backslash and no delete is written as it is
pub byte_plain : (b : ℕ) → 32 ≤ b → (b ≡ 34 → ⊥) → (b ≡ 92 → ⊥) → (b ≡ 0x7F → ⊥) → byte_form b ≡ Raw b
unfolding byte_form short_form is_ascii_control
byte_plain b h p q r =
    rw (
      ne_eqb b 92 q,
      ne_eqb b 34 p,
      ne_eqb b 8 (λ e. omega arith),
      ne_eqb b 9 (λ e. omega arith),
      ne_eqb b 10 (λ e. omega arith),
      ne_eqb b 13 (λ e. omega arith),
      le-ltb b 32 h,
      ne_eqb b 0x7F r,
    )
    refl

-- and one below 32 that has no short form in hexadecimal digits
pub byte_low : (b : ℕ) → b < 32 → (b ≡ 8 → ⊥) → (b ≡ 9 → ⊥) → (b ≡ 10 → ⊥) → (b ≡ 13 → ⊥) → byte_form b ≡ Long b
unfolding byte_form short_form is_ascii_control
byte_low b h p q r s =
    rw (
      ne_eqb b 92 (λ e. omega arith),
      ne_eqb b 34 (λ e. omega arith),
      ne_eqb b 8 p,
      ne_eqb b 9 q,
      ne_eqb b 10 r,
      ne_eqb b 13 s,
      lt-ltb b 32 h,
    )
    refl

-- the form at a place
module _ (v : Bytes) (i : ℕ) (h : i < length v) where
  pub form_other : (get_or v i 0 ≡ 0xC2 → ⊥) → form_of (drop i v) ≡ byte_form (get_or v i 0)
  form_other e = ap form_of (drop-cons v i 0 h) ∙ form_byte (get_or v i 0) (drop (suc i) v) (ne_eqb (get_or v i 0) 0xC2 e)

  pub form_end : length v ≤ i + 1 → form_of (drop i v) ≡ byte_form (get_or v i 0)
  unfolding form_of
  form_end e = rw (drop-cons v i 0 h, drop_of_length-le v {i = suc i} (omega arith)) refl

  form-pair :
      (n : i + 1 < length v)
      → form_of (drop i v)
      ≡ (if eqb (get_or v i 0) 0xC2 && within (get_or v (i + 1) 0) (0x80 to 0x9F) then Upper (get_or v (i + 1) 0) else byte_form (get_or v i 0))
  unfolding form_of
  form-pair n =
      ap form_of (drop-cons v i 0 h ∙ ap (λ (l : Bytes). get_or v i 0 ∷ l) (ap (λ (k : ℕ). drop k v) (sym (add-one i)) ∙ drop-cons v (i + 1) 0 n))

  pub form_beside : i + 1 < length v → within (get_or v (i + 1) 0) (0x80 to 0x9F) ≡ false → form_of (drop i v) ≡ byte_form (get_or v i 0)
  form_beside n e = form-pair n ∙ rw e (pick (eqb (get_or v i 0) 0xC2))
    where
      pick : (x : Bool) → (if x && false then Upper (get_or v (i + 1) 0) else byte_form (get_or v i 0)) ≡ byte_form (get_or v i 0)
      pick true = refl
      pick false = refl

  pub form_upper : get_or v i 0 ≡ 0xC2 → i + 1 < length v → 128 ≤ get_or v (i + 1) 0 → get_or v (i + 1) 0 ≤ 159 → form_of (drop i v) ≡ Upper (get_or v (i + 1) 0)
  form_upper e n l m = form-pair n ∙ rw (e, within_intro (get_or v (i + 1) 0) (0x80 to 0x9F) l m) refl
