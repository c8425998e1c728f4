-- Document 02, T-01: the second reader of a header line. What it accepts of UTF-8 is within limits and validators. A header whose parameters
-- hold no space is read back from its line, whatever the ends of its name and value; of any other smaller parameters are read, since they are
-- read up to the first space. Assumes nothing.
use Prim.Native.Nat.{◌<◌}
use mathlib.Core.Path.{◌≡◌, refl, ap, ◌∙◌}
use mathlib.Core.Bool.{true, false}
use mathlib.Core.Logic.{⊎_elim}
use mathlib.Core.List.{List, [], ◌∷◌, ◌++◌}
use native.Mathlib.Omega.{arith}
use lib.Dec.{eqb}
use Rattle.format.specs.Bytes.{Bytes, all, any, total, texts, colon, semicolon, equals, space, begins, has, up_to, past, pieces, split}
use Rattle.format.specs.Characters.{is_utf8}
use Rattle.format.specs.Escaping.{value_text}
use Rattle.format.specs.Refusals.{lacks_colon, lacks_space, accepted, ◌>>◌, ◌>>=◌}
use Rattle.format.specs.Validators.{header_value}
use Rattle.format.specs.Message.{Entry, Header, need_entry, valid_header}
use Rattle.format.specs.Reading.{each, checked_value}
use Rattle.format.specs.ReadingRfc.{read_param_rfc, misplaced, read_right, read_header_rfc, line_reader}
use Rattle.format.specs.Writing.{param_text, header_line}
use Rattle.format.specs.SecondReading.{spaceless}
use Rattle.format.specs.declared.Manner.{Manner}
use Rattle.format.specs.declared.Manner.TheVariants.{Source, Rfc}
use Rattle.format.proofs.Lists.{bcase, clash, all_tail}
use Rattle.format.proofs.Escaping.ValueText.{value_read_lem}
use Rattle.format.proofs.Splitting.Split.{has_at, up_to_at, past_at}
use Rattle.format.proofs.Splitting.SplitUtf8.{split_utf8, up_to_utf8, past_utf8}
use Rattle.format.proofs.Steps.{accepted_same, then_accepted, then_passed, bind_accepted, bind_passed, refuse_if_passed, refuse_unless_passed, each_keeps}
use Rattle.format.proofs.Messages.Parts.{Params, header_parts, header_whole_lem}
use Rattle.format.proofs.Messages.Valid.{no_params, set_param_within}
use Rattle.format.proofs.Texts.ReadLine.{name_colon, behind_colon}
use Rattle.format.proofs.Texts.ReadValid.{value_within, read_header_valid}
use Rattle.format.proofs.Texts.RfcParams.{rest_split, params_back, spaceless_text, space_text, weight, lighter, params_weigh, params_read}

-- Within limits.

param_within : (part : Bytes) (ps qs : List Entry) → is_utf8 part ≡ true → Params ps → read_param_rfc part ps ≡ accepted qs → Params qs
unfolding read_param_rfc
param_within part ps qs u w h =
    set_param_within _ _ ps qs (up_to_utf8 equals part (omega arith) u) (past_utf8 equals part (omega arith) u) w (then_accepted _ _ _ h).0

pub read_header_rfc_valid : (l : Bytes) (h : Header) → is_utf8 l ≡ true → read_header_rfc l ≡ accepted h → valid_header h ≡ true
unfolding read_header_rfc read_right all
read_header_rfc_valid l h u e =
    let name = then_accepted _ _ _ (then_accepted _ _ _ e).0 in
    let right = past_utf8 colon l (omega arith) u in
    let params = bind_accepted _ _ _ (then_accepted _ _ _ name.0).0 in
    let value = bind_accepted _ _ _ params.2 in
    let v = value_within Rfc (past space (past colon l)) value.0 (past_utf8 space (past colon l) (omega arith) right) value.1 in
    let parts = split (semicolon ∷ []) (up_to space (past colon l)) in
    let whole : all is_utf8 (pieces parts) ≡ true = split_utf8 semicolon [] (up_to space (past colon l)) refl (up_to_utf8 space (past colon l) (omega arith) right) in
    let ps = each_keeps Params is_utf8 read_param_rfc param_within parts.rest [] params.0 (all_tail is_utf8 parts.first parts.rest whole) no_params params.1 in
    rw (← accepted_same _ h value.2)
    (header_whole_lem _
    (record { named = name.1; name_utf8 = up_to_utf8 colon l (omega arith) u; rest = record { valued = v.1; value_utf8 = v.0; params = ps } }))

-- by either reader
pub line_reader_valid : (r : Manner) (l : Bytes) (h : Header) → is_utf8 l ≡ true → line_reader r l ≡ accepted h → valid_header h ≡ true
line_reader_valid Source = read_header_valid
line_reader_valid Rfc = read_header_rfc_valid

-- The line of a header: behind the colon stands a space or a `;`, and a space follows.
line_placed : (es : List Entry) (t : Bytes) → misplaced (texts param_text es ++ (space ∷ t)) ≡ false
unfolding misplaced texts param_text begins
line_placed [] t = rw (has_at space [] t) refl
line_placed (e ∷ es) t = rw (has_at space (texts param_text (e ∷ es)) t) refl

pub rfc_back : (h : Header) → valid_header h ≡ true → spaceless h ≡ true → read_header_rfc (header_line h) ≡ accepted h
unfolding read_header_rfc read_right header_line checked_value spaceless ◌>>=◌
rfc_back h v s =
    let w = header_parts h v in
    let c = name_colon h.name w.named in
    let t = texts param_text h.params in
    let clear = spaceless_text h.params s in
    let ps = w.rest.params in
    then_passed _ _ (refuse_unless_passed (has colon (h.name ++ (colon ∷ behind_colon h))) lacks_colon (has_at colon h.name (behind_colon h)))
    ∙ rw (up_to_at colon h.name (behind_colon h) c, past_at colon h.name (behind_colon h) c)
    (then_passed _ _ w.named
    ∙ then_passed _ _ (refuse_if_passed (misplaced (behind_colon h)) lacks_space (line_placed h.params (value_text h.value)))
    ∙ rw (
      up_to_at space t (value_text h.value) clear,
      past_at space t (value_text h.value) clear,
      rest_split h.params ps.each,
      value_read_lem Rfc h.value w.rest.value_utf8,
    )
    (bind_passed _ _ h.params (params_back [] h.params ps.each ps.ordered ps.few)
    ∙ bind_passed (◌>>◌ (header_value h.value) (accepted h.value)) _ h.value (then_passed _ _ w.rest.valued)))

-- what stands up to the first space, with a text behind
up_to_front : (s t : Bytes) → has space s ≡ true → up_to space (s ++ t) ≡ up_to space s
unfolding up_to any
up_to_front [] t h = clash h refl
up_to_front (b ∷ s) t h =
    ⊎_elim (λ (e : eqb space b ≡ true). rw e refl)
    (λ (e : eqb space b ≡ false). rw e (ap (λ (r : Bytes). b ∷ r) (up_to_front s t (rw e at h))))
    (bcase (eqb space b))

pub rfc_less : (h k : Header) → valid_header h ≡ true → spaceless h ≡ false → read_header_rfc (header_line h) ≡ accepted k
    → total need_entry k.params < total need_entry h.params
unfolding read_header_rfc read_right header_line spaceless
rfc_less h k v s e =
    let w = header_parts h v in
    let t = texts param_text h.params in
    let there = space_text h.params s in
    let right = (then_accepted _ _ _ (then_accepted _ _ _ e).0).0 in
    let params = bind_accepted _ _ _ (then_accepted _ _ _ right).0 in
    let value = bind_accepted _ _ _ params.2 in
    let same : params.0 ≡ k.params = ap (λ (x : Header). x.params) (accepted_same _ k value.2) in
    let front : up_to space (past colon (h.name ++ (colon ∷ behind_colon h))) ≡ up_to space t =
    ap (up_to space) (past_at colon h.name (behind_colon h) (name_colon h.name w.named)) ∙ up_to_front t (space ∷ value_text h.value) there in
    omega (
      arith,
      ap (total need_entry) same,
      params_read _ params.0 params.1,
      ap weight front,
      lighter t there,
      params_weigh h.params w.rest.params.each,
    )
