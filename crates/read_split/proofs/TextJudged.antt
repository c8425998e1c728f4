-- The ways out of judging a text, and what is known where its parts stand. Assumes nothing.
use Rattle.std.specs.Prelude.{Option, None, Some}
use Prim.Native.Nat.{◌-◌, ◌≤◌, ◌<◌}
use mathlib.Core.Path.{◌≡◌, refl, sym, ap, ◌∙◌}
use mathlib.Core.Bool.{Bool, true, false}
use mathlib.Core.List.{◌∷◌}
use lib.ListN.{length, take, drop}
use Rattle.format.specs.Bytes.{Bytes, all, crlf_crlf_text, occurs, pieces, split}
use Rattle.format.specs.Characters.{is_utf8}
use Rattle.format.specs.Limits.{max_text}
use Rattle.format.specs.Refusals.{text_too_long, too_few_sections, not_utf8, accepted, refused, Check, refuse_if, ◌>>◌}
use Rattle.format.specs.Validators.{utf8}
use Rattle.format.specs.Reading.{Parts, sections, parts_of, text_parts}
use Rattle.format.specs.LookingUp.{stands_in_text}
use Rattle.format.proofs.Steps.{then_passed}
use Rattle.format.proofs.Answers.{over_limit}
use Rattle.format.proofs.Lists.{all_head, all_tail}
use Rattle.format.proofs.Rulesets.{checks}
use Rattle.format.proofs.Texts.ReadValid.{sections_utf8}
use Rattle.sections.specs.declared.Places.{Places}
use Rattle.sections.specs.Cuts.{separator_for, places_of, parts_at}
use Rattle.sections.proofs.Cutting.{sections_are}
use Rattle.sections.proofs.Sections.{Three, separator_long, four_three}
use Rattle.read_split.specs.TextJudged.{Stands, body_behind}
use Rattle.read_split.specs.declared.Parted.{Parted}

module _ (t : Bytes) where
  -- 1
  pub too_long_lem : max_text < length t → text_parts t ≡ refused (text_too_long (length t))
  unfolding text_parts ◌>>◌
  too_long_lem h = ap (λ (c : Check). ◌>>◌ c (◌>>◌ (utf8 t) (parts_of (sections t)))) (over_limit max_text text_too_long (length t) h)

  module _ (short : length t ≤ max_text) where
    -- 1 does not apply
    within : text_parts t ≡ ◌>>◌ (utf8 t) (parts_of (sections t))
    unfolding text_parts
    within = then_passed _ _ (simp checks short)

    -- 24
    pub not_text : is_utf8 t ≡ false → text_parts t ≡ refused not_utf8
    unfolding utf8 refuse_if ◌>>◌
    not_text h = within ∙ rw h refl

    module _ (u : is_utf8 t ≡ true) (crlf : Bool) (e : crlf ≡ occurs crlf_crlf_text t) where
      -- neither applies
      split_up : text_parts t ≡ parts_of (pieces (split (separator_for crlf) t))
      unfolding utf8
      split_up =
          within
          ∙ then_passed (utf8 t) _ (simp checks u)
          ∙ ap parts_of (sections_are t ∙ ap (λ (b : Bool). pieces (split (separator_for b) t)) (sym e))

      -- 2
      pub few : (q : Option Places) → q ≡ None → parts_at (separator_for crlf) t q ≡ parts_of (pieces (split (separator_for crlf) t))
          → text_parts t ≡ refused too_few_sections
      unfolding parts_at
      few q p h = split_up ∙ sym h ∙ ap (parts_at (separator_for crlf) t) p

      pub stands : (q : Option Places) (s : Places) → q ≡ Some s → q ≡ places_of (separator_for crlf) t
          → parts_at (separator_for crlf) t q ≡ parts_of (pieces (split (separator_for crlf) t))
          → Stands t (record { crlf = crlf; places = s })
      unfolding stands_in_text
      stands q s i p h = record { short = short; utf8 = u; separated = e; placed = sym i ∙ p; parts = split_up ∙ sym h ∙ ap (parts_at (separator_for crlf) t) i }

-- Where the parts stand.
module _ (t : Bytes) (p : Parted) (s : Stands t p) where
  abbrev at : Places
  at = p.places

  -- the sections lie one behind another, within the text
  pub three : Three (separator_for p.crlf) t at
  three = four_three (separator_for p.crlf) t (separator_long p.crlf) at (sym s.placed)

  abbrev pub parts_stood : Parts
  parts_stood =
      record {
        mime = take at.end1 t;
        headers = take (at.end2 - at.start2) (drop at.start2 t);
        contents = take (at.end3 - at.start3) (drop at.start3 t);
        body = body_behind p.crlf (drop at.rest t);
      }

  pub parts_stand : text_parts t ≡ accepted parts_stood
  unfolding parts_at
  parts_stand = s.parts

  -- the sections of a UTF-8 text are UTF-8
  pub sections_stand : (is_utf8 (take (at.end2 - at.start2) (drop at.start2 t)) ≡ true) × (is_utf8 (take (at.end3 - at.start3) (drop at.start3 t)) ≡ true)
  unfolding stands_in_text
  sections_stand =
      let cut : sections t ≡ take at.end1 t ∷ take (at.end2 - at.start2) (drop at.start2 t) ∷ take (at.end3 - at.start3) (drop at.start3 t) ∷ pieces (split (separator_for p.crlf) (drop at.rest t)) =
      sections_are t ∙ ap (λ (b : Bool). pieces (split (separator_for b) t)) (sym s.separated) ∙ three.pieces_are in
      let behind = all_tail is_utf8 _ _ (ap (all is_utf8) (sym cut) ∙ sections_utf8 t s.utf8) in
      (all_head is_utf8 _ _ behind, all_head is_utf8 _ _ (all_tail is_utf8 _ _ behind))
