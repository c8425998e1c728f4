-- A text that is written piece by piece: what is done, what is left, and where it goes on. Every loop that writes can carry it.
-- It rests on the laws of `pasted`. Assumes nothing.
use Prim.Native.Nat.{ℕ, ◌+◌, ◌≤◌}
use mathlib.Core.Path.{◌≡◌, refl, sym, ap, ◌∙◌}
use mathlib.Core.List.{[], ◌++◌, append_assoc, append-nil}
use native.Mathlib.Omega.{arith}
use lib.ListN.{length, length-append}
use Rattle.format.specs.Bytes.{Bytes, pasted}
use Rattle.octets.proofs.Paste.{pasted_nil, pasted_pasted, length_pasted}

-- Of the text whole, rest is left to write; the bytes before it are over those of d from the place at on, which gave out, and
-- the next goes to the place to.
pub record Written (whole d out : Bytes) (at to : ℕ) (rest : Bytes) : Type 0 where
  pub done : Bytes
  pub parts : whole ≡ done ++ rest
  pub place : to ≡ at + length done
  pub bytes : out ≡ pasted at done d

pub written_none : (whole d : Bytes) (at : ℕ) → Written whole d d at at whole
written_none whole d at = record { done = []; parts = refl; place = omega arith; bytes = sym (pasted_nil at d) }

module _ {whole d out : Bytes} {at to : ℕ} {rest : Bytes} (w : Written whole d out at to rest) (h : at + length whole ≤ length d) where
  pub written_length : (length out ≡ length d) × (to + length rest ≤ length d)
  written_length =
      let l = ap length w.parts ∙ length-append w.done rest in
      let p = w.place in
      (ap length w.bytes ∙ length_pasted at w.done d (omega arith), omega arith)

  -- one more piece
  pub written-more :
      (part left now : Bytes) (next : ℕ) → rest ≡ part ++ left → now ≡ pasted to part out → next ≡ to + length part → Written whole d now at next left
  written-more part left now next e n k =
      record {
        done = w.done ++ part;
        parts = w.parts ∙ ap (λ (x : Bytes). w.done ++ x) e ∙ sym (append_assoc w.done part left);
        place = k ∙ omega (arith, w.place, length-append w.done part);
        bytes = n ∙ rw (w.place, w.bytes) (pasted_pasted at w.done part d (omega arith));
      }

  -- nothing is left
  pub written_all : rest ≡ [] → (to ≡ at + length whole) × (out ≡ pasted at whole d)
  written_all e =
      let p : whole ≡ w.done = w.parts ∙ ap (λ (x : Bytes). w.done ++ x) e ∙ append-nil w.done in
      (w.place ∙ ap (λ (x : Bytes). at + length x) (sym p), w.bytes ∙ ap (λ (x : Bytes). pasted at x d) (sym p))
