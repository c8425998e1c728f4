-- The sections joined, cut by cut: what a cut says of the whole. Assumes nothing.
use Prim.Native.Nat.{ℕ, zero, suc, ◌+◌, ◌-◌, ◌*◌, ◌≤◌, ◌<◌}
use mathlib.Core.Path.{◌≡◌, refl, sym, ap, ◌∙◌}
use Rattle.std.specs.Prelude.{None, Some}
use mathlib.Core.List.{[], ◌∷◌, ◌++◌}
use native.Mathlib.Omega.{arith}
use lib.ListN.{length, take, drop, length-append, length-drop}
use lib.Seq.{length-take-le}
use Rattle.format.specs.Bytes.{Bytes, cr, lf, lf_lf_text, crlf_crlf_text, pieces, split}
use Rattle.format.specs.Reading.{body_of}
use Rattle.format.proofs.Splitting.Split.{join_one, join_cons, join_split}
use Rattle.sections.specs.declared.Piece.{Piece}
use Rattle.sections.specs.Body.{joined}
use Rattle.sections.specs.Cuts.{cut_of}
use Rattle.sections.proofs.Cutting.{by_next, More, cut_more, cut_last, rest_more, rest_last, rest_whole}

-- the body of a text whose separator is CRLFCRLF is part of the text
pub body_crlf : (t : Bytes) → body_of (pieces (split crlf_crlf_text t)) ≡ t
unfolding body_of
body_crlf t = join_split cr (lf ∷ cr ∷ lf ∷ []) t

pub joined_more : (t rest : Bytes) (r : Piece) (n : ℕ) → More lf_lf_text t rest r n → joined t ≡ take r.end t ++ (crlf_crlf_text ++ joined rest)
unfolding body_of
joined_more t rest r n m = ap body_of m.pieces_are ∙ join_cons crlf_crlf_text (take r.end t) (split lf_lf_text rest).first (split lf_lf_text rest).rest

pub joined_length : (t rest : Bytes) (r : Piece) (n : ℕ) → More lf_lf_text t rest r n → length (joined t) ≡ r.end + (4 + length (joined rest))
joined_length t rest r n m =
    ap length (joined_more t rest r n m)
    ∙ length-append (take r.end t) (crlf_crlf_text ++ joined rest)
    ∙ rw (length-take-le r.end t (omega arith), length-append crlf_crlf_text (joined rest)) refl

pub joined_last : (t : Bytes) → pieces (split lf_lf_text t) ≡ t ∷ [] → joined t ≡ t
unfolding body_of
joined_last t h = ap body_of h ∙ join_one crlf_crlf_text t

-- Joined, a text is at most twice as long: two bytes become four. By the first cut, and then of what stands behind it.
bound_cut : (t : Bytes) → ((s : Bytes) → length s < length t → length (joined s) ≤ 2 * length s) → length (joined t) ≤ 2 * length t
bound_cut t shorter = by_next (cut_of lf_lf_text t).next last more
  where
    last : (cut_of lf_lf_text t).next ≡ None → length (joined t) ≤ 2 * length t
    last h = rw (joined_last t (cut_last lf_lf_text t (cut_of lf_lf_text t) refl h)) (omega arith)

    more : (n : ℕ) → (cut_of lf_lf_text t).next ≡ Some n → length (joined t) ≤ 2 * length t
    more n h =
        let m = cut_more lf_lf_text t (cut_of lf_lf_text t) n (omega arith) refl h in
        let rest = drop n t in
        let l = length-drop n t in
        omega (arith, joined_length t rest (cut_of lf_lf_text t) n m, shorter rest (omega arith))

bound_by : (n : ℕ) (t : Bytes) → length t ≤ n → length (joined t) ≤ 2 * length t
bound_by zero t h = bound_cut t (λ s k. omega arith)
bound_by (suc n) t h = bound_cut t (λ s k. bound_by n s (omega arith))

pub joined_bound : (t : Bytes) → length (joined t) ≤ 2 * length t
joined_bound t = bound_by (length t) t (omega arith)

-- the length of the sections that are left from a place on, by the cut of the first
module _ (rest : Bytes) (at : ℕ) (r : Piece) (cut : r ≡ cut_of lf_lf_text (take (length rest - at) (drop at rest))) where
  pub left_more : (n : ℕ) → r.next ≡ Some n → at ≤ length rest
      → (length (joined (drop at rest)) ≡ r.end + 4 + length (joined (drop (at + n) rest))) × (at + n ≤ length rest) × (r.end + 2 ≡ n)
  left_more n h l =
      let m = rest_more lf_lf_text rest at r cut n (omega arith) h in
      let d = length-drop at rest in
      let j = joined_length (drop at rest) (drop (at + n) rest) r n m in
      (omega arith, omega arith, omega arith)

  pub left_last : r.next ≡ None → length (joined (drop at rest)) ≡ r.end
  left_last h = ap length (joined_last (drop at rest) (rest_last lf_lf_text rest at r cut h)) ∙ sym (rest_whole lf_lf_text rest at r cut h)
