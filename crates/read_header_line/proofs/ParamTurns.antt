-- One turn of the loop over the parts between `;`: the next part is read, and the rest of the text has the others. Before the first
-- turn the room holds no parameter. Assumes nothing.
use Rattle.std.specs.Prelude.{Result, Err}
use Rattle.std.specs.Result.{IsErrAnd}
use Prim.Native.Nat.{ℕ, ◌+◌, ◌-◌, ◌≤◌, ◌<◌}
use mathlib.Core.Path.{◌≡◌, sym, ap, ◌∙◌, subst}
use mathlib.Core.Bool.{true}
use mathlib.Core.List.{List, [], ◌∷◌, append-nil}
use native.Mathlib.Omega.{arith}
use lib.ListN.{length, take, drop, replicate, length-drop}
use lib.Seq.{drop-drop}
use Rattle.format.specs.Bytes.{Bytes, semicolon, up_to, pieces, split, pasted, texts, total, over}
use Rattle.format.specs.Characters.{is_utf8}
use Rattle.format.specs.Refusals.{Out, accepted, ◌>>=◌}
use Rattle.format.specs.Message.{Entry, need_alone}
use Rattle.format.specs.Layout.{layout_alone, header_of}
use Rattle.format.specs.Reading.{each}
use Rattle.format.specs.declared.refusal.Refusal.{Refusal}
use Rattle.format.proofs.Lists.{rest_is}
use Rattle.format.proofs.Steps.{bind_passed}
use Rattle.format.proofs.Splitting.SplitUtf8.{up_to_utf8, past_utf8}
use Rattle.format.proofs.Messages.Layout.{laid_alone_lem}
use Rattle.format.proofs.Messages.Valid.{no_params}
use Rattle.octets.proofs.Find.{found_up_to, found_past}
use Rattle.octets.proofs.Paste.{pasted_start}
use Rattle.read_header_line.specs.Gathered.{Yields, bare, Standing}
use Rattle.read_header_line.proofs.Yielding.{yields_as, ended, last}
use Rattle.read_header_line.proofs.Setting.{bare_valid}
use Rattle.read_header_line.proofs.Parting.{others_more, others_none, first_is}

-- sixteen zeros are the header alone without a value and without a parameter
blank_layout : replicate 16 0 ≡ layout_alone (bare [])
unfolding layout_alone texts
blank_layout = sym (append-nil (replicate 16 0))

pub blank_stands : (room after : Bytes) → after ≡ pasted 0 (replicate 16 0) room → Standing (record { valuelen = 0; params = 0; size = 16 }) after []
unfolding header_of need_alone total
blank_stands room after e =
    subst (λ (s : Bytes). Standing (record { valuelen = 0; params = 0; size = 16 }) s [])
    (sym (e ∙ pasted_start (replicate 16 0) room ∙ ap (λ (s : Bytes). over s room) blank_layout))
    (laid_alone_lem room (bare []) (bare_valid [] no_params))

-- Of the text t that is left, p stands up to the first `;`, k bytes behind its start, and q from it on.
pub record Turn (t p q : Bytes) : Type 0 where
  pub k : ℕ
  pub found : k ≡ length (up_to semicolon t)
  pub front : p ≡ take k t
  pub back : q ≡ drop k t

module _ {t p q : Bytes} (at : Turn t p q) where
  pub part_utf8 : is_utf8 t ≡ true → is_utf8 p ≡ true
  part_utf8 u = ap is_utf8 (at.front ∙ sym (found_up_to semicolon t at.k at.found)) ∙ up_to_utf8 semicolon t (omega arith) u

  -- what stands behind the `;`
  behind : take (length q - 1) (drop 1 q) ≡ drop (at.k + 1) t
  behind = rest_is q 1 ∙ ap (drop 1) at.back ∙ drop-drop 1 at.k t

  pub rest_utf8 : is_utf8 t ≡ true → is_utf8 (take (length q - 1) (drop 1 q)) ≡ true
  rest_utf8 u = ap is_utf8 (behind ∙ sym (found_past semicolon t at.k at.found)) ∙ past_utf8 semicolon t (omega arith) u

  -- ps have been read from the parts before it
  module _ (step : Bytes → List Entry → Out (List Entry)) (ps : List Entry) (whole : Out (List Entry)) (so : whole ≡ each step (pieces (split (semicolon ∷ []) t)) ps) where
    turn : whole ≡ ◌>>=◌ (step p ps) (each step (split (semicolon ∷ []) t).rest)
    unfolding each
    turn =
        so
        ∙ ap (λ (s : Bytes). ◌>>=◌ (step s ps) (each step (split (semicolon ∷ []) t).rest)) (first_is t at.k at.found ∙ sym at.front)

    -- it is refused
    pub refused_there : {R : Type 0} {P Q : R → List Entry → Type 0} {e : Refusal} → Yields {R = R} (Err e) (step p ps) P → (r : Result R Refusal) → IsErrAnd r (λ d. d ≡ e) → Yields r whole Q
    refused_there y r s = yields_as (ended y (each step (split (semicolon ∷ []) t).rest) r s) turn

    -- it is the last
    pub ends_there : {R : Type 0} {P : R → List Entry → Type 0} {r : Result R Refusal} → length q < 1 → Yields r (step p ps) P → Yields r whole P
    unfolding each
    ends_there h y =
        let e = others_none t at.k at.found (omega (arith, ap length at.back, length-drop at.k t)) in
        yields_as (last y) (turn ∙ ap (λ (ss : List Bytes). ◌>>=◌ (step p ps) (each step ss)) e)

    -- there are more
    pub goes_on : 1 ≤ length q → (qs : List Entry) → step p ps ≡ accepted qs → whole ≡ each step (pieces (split (semicolon ∷ []) (take (length q - 1) (drop 1 q)))) qs
    goes_on h qs g =
        let e =
        others_more t at.k at.found (omega (arith, ap length at.back, length-drop at.k t))
        ∙ ap (λ (s : Bytes). pieces (split (semicolon ∷ []) s)) (sym behind) in
        turn
        ∙ ap (λ (ss : List Bytes). ◌>>=◌ (step p ps) (each step ss)) e
        ∙ bind_passed (step p ps) (each step (pieces (split (semicolon ∷ []) (take (length q - 1) (drop 1 q))))) qs g
