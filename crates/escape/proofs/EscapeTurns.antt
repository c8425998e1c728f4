-- One turn of the loops: the form at a place, its bytes, and what is left behind it. Assumes nothing.
use Rattle.std.specs.Prelude.{if◌then◌else◌}
use Prim.Native.Nat.{ℕ, suc, ◌+◌, ◌≤◌, ◌<◌}
use mathlib.Core.Path.{◌≡◌, refl, sym, ap, ◌∙◌}
use mathlib.Core.Bool.{Bool, true, false, ◌&&◌}
use mathlib.Core.List.{[], ◌∷◌, ◌++◌}
use native.Mathlib.Omega.{arith}
use lib.Dec.{eqb}
use lib.ListN.{length, drop, get_or, length-append, length-drop, drop_of_length-le}
use lib.Seq.{drop-cons, drop-drop}
use Rattle.format.specs.Bytes.{Bytes, pasted}
use Rattle.format.specs.Characters.{◌to◌, within}
use Rattle.format.specs.Escaping.{unicode_escape, escape}
use Rattle.octets.proofs.Paste.{pasted_pasted}
use Rattle.escape.specs.Forms.{byte_form, form_of, takes_form, width_form, written_form}
use Rattle.escape.specs.declared.forms.Form.{Form}
use Rattle.escape.specs.declared.forms.Form.TheVariants.{Raw, Short, Long, Upper}
use Rattle.escape.proofs.Units.{escape_nil, escape_unit, byte_takes}

pub width_written : (f : Form) → length (written_form f) ≡ width_form f
unfolding unicode_escape
width_written (Raw b) = refl
width_written (Short c) = refl
width_written (Long n) = refl
width_written (Upper n) = refl

form_takes : (b : ℕ) (t : Bytes) → takes_form (form_of (b ∷ t)) ≤ suc (length t)
unfolding form_of
form_takes b [] = omega (arith, byte_takes b)
form_takes b (c ∷ t) = pick (eqb b 0xC2 && within c (0x80 to 0x9F))
  where
    pick : (x : Bool) → takes_form (if x then Upper c else byte_form b) ≤ suc (suc (length t))
    pick true = omega arith
    pick false = omega (arith, byte_takes b)

pub takes_some : (f : Form) → 1 ≤ takes_form f
takes_some (Raw b) = omega arith
takes_some (Short c) = omega arith
takes_some (Long n) = omega arith
takes_some (Upper n) = omega arith

-- One turn: the form f at the place i of a value v.
module _ (v : Bytes) (i : ℕ) (f : Form) (h : i < length v) (e : f ≡ form_of (drop i v)) where
  pub turn_within : i + takes_form f ≤ length v
  turn_within =
      let k : takes_form f ≤ length (drop i v) = rw (e, drop-cons v i 0 h) (form_takes (get_or v i 0) (drop (suc i) v)) in
      omega (arith, length-drop i v)

  pub turn_escape : escape (drop i v) ≡ written_form f ++ escape (drop (i + takes_form f) v)
  turn_escape =
      let s = drop i v in
      let u : escape s ≡ written_form (form_of s) ++ escape (drop (takes_form (form_of s)) s) =
      rw (drop-cons v i 0 h) (escape_unit (get_or v i 0) (drop (suc i) v)) in
      u ∙ rw (← e) (ap (λ (l : Bytes). written_form f ++ escape l) (drop-drop (takes_form f) i v))

  pub turn_length : length (escape (drop i v)) ≡ width_form f + length (escape (drop (i + takes_form f) v))
  turn_length =
      ap length turn_escape
      ∙ length-append (written_form f) (escape (drop (i + takes_form f) v))
      ∙ ap (λ (k : ℕ). k + length (escape (drop (i + takes_form f) v))) (width_written f)

  -- what is left to write goes behind the form's bytes
  pub turn_pasted : (at : ℕ) (d : Bytes) → at ≤ length d
      → pasted (at + width_form f) (escape (drop (i + takes_form f) v)) (pasted at (written_form f) d) ≡ pasted at (escape (drop i v)) d
  turn_pasted at d k =
      ap (λ (n : ℕ). pasted (at + n) (escape (drop (i + takes_form f) v)) (pasted at (written_form f) d)) (sym (width_written f))
      ∙ pasted_pasted at (written_form f) (escape (drop (i + takes_form f) v)) d k
      ∙ ap (λ (l : Bytes). pasted at l d) (sym turn_escape)

-- nothing is left
pub escape_end : (v : Bytes) (i : ℕ) → length v ≤ i → escape (drop i v) ≡ []
escape_end v i h = ap escape (drop_of_length-le v {i = i} h) ∙ escape_nil
