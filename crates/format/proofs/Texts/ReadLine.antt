-- Reading one written line: the first colon is the one behind the name, since a name holds none; a space behind it is trimmed away,
-- and nothing of the value as it is written, so the value comes back whatever its ends are. Assumes nothing.
use mathlib.Core.Path.{◌≡◌, refl, sym, ap, ◌∙◌}
use mathlib.Core.Bool.{true, false, not}
use mathlib.Core.List.{[], ◌∷◌, ◌++◌}
use native.Mathlib.Omega.{arith}
use Rattle.format.specs.Bytes.{Bytes, ascii, colon, semicolon, space, any, texts, has, lower, same_letters}
use Rattle.format.specs.Characters.{trail_in, fits, well_formed, matched, chars_from, chars, code_point, is_white, drop_front, drop_back, trim_by, is_utf8, trim}
use Rattle.format.specs.Escaping.{value_text}
use Rattle.format.specs.Refusals.{lacks_colon, accepted, refuse_if, passes, ◌>>◌, ◌>>=◌}
use Rattle.format.specs.Validators.{reserved_in_name, header_name, header_value}
use Rattle.format.specs.Message.{Entry, Header, Message, valid_header, valid_content}
use Rattle.format.specs.Calls.{Stores}
use Rattle.format.specs.Writing.{param_text, header_line, content_line, type_line}
use Rattle.format.specs.Reading.{each, checked_value, read_value, read_name_and_value, read_header, read_type, read_named, read_content_line}
use Rattle.format.specs.declared.Manner.TheVariants.{Source}
use Rattle.format.proofs.Characters.Chars.{chars_ascii}
use Rattle.format.proofs.Splitting.Split.{split_none, occurs_clear, has_at, up_to_at, past_at}
use Rattle.format.proofs.Escaping.ValueText.{value_read_lem, value_trim}
use Rattle.format.proofs.Steps.{then_accepted, then_passed, bind_accepted, accepted_same, refuse_unless_passed}
use Rattle.format.proofs.Messages.Checked.{name_checked, free_of}
use Rattle.format.proofs.Messages.Parts.{header_parts, content_parts}

-- a name holds no colon and no semicolon
pub name_colon : (s : Bytes) → passes (header_name s) ≡ true → has colon s ≡ false
unfolding reserved_in_name any
name_colon s h = free_of reserved_in_name colon refl s (name_checked s h).free

name_semicolon : (s : Bytes) → passes (header_name s) ≡ true → has semicolon s ≡ false
unfolding reserved_in_name any
name_semicolon s h = free_of reserved_in_name semicolon refl s (name_checked s h).free

space_white : is_white (space ∷ []) ≡ true
unfolding is_white well_formed trail_in fits code_point any
space_white = refl

-- a space in front is trimmed away
pub trim_space : (s : Bytes) → trim (space ∷ s) ≡ trim s
unfolding trim_by drop_front
trim_space s = rw (chars_ascii space s (omega arith), space_white) refl

-- what is behind the name of a header's line: the parameters, a space, the value as it is written
abbrev pub behind_colon : Header → Bytes
behind_colon h = texts param_text h.params ++ (ascii " " ++ value_text h.value)

-- Left of the colon stands the name alone, so no parameter is read, whatever the header has.
pub read_header_line_lem : (h : Header) → valid_header h ≡ true
    → read_header (header_line h)
    ≡ do
      header_name (trim h.name)
      v ← read_value (behind_colon h)
      accepted (record { name = trim h.name; value = v; params = [] })
unfolding read_header header_line read_name_and_value each ◌>>=◌
read_header_line_lem h v =
    let w = header_parts h v in
    let c = name_colon h.name w.named in
    let s = name_semicolon h.name w.named in
    then_passed (refuse_if (not (has colon (h.name ++ (colon ∷ behind_colon h)))) lacks_colon) _
    (refuse_unless_passed (has colon (h.name ++ (colon ∷ behind_colon h))) lacks_colon (has_at colon h.name (behind_colon h)))
    ∙ rw (up_to_at colon h.name (behind_colon h) c, past_at colon h.name (behind_colon h) c, split_none (semicolon ∷ []) h.name (occurs_clear semicolon [] h.name s)) refl

-- the value of a header without parameters
pub read_value_lem : (v : Bytes) → passes (header_value v) ≡ true → is_utf8 v ≡ true → read_value (space ∷ value_text v) ≡ accepted v
unfolding read_value checked_value
read_value_lem v h u =
    rw (trim_space (value_text v), value_trim v u, value_read_lem Source v u) (then_passed (header_value v) (accepted v) h)

pub read_header_plain : (h : Header) → valid_header h ≡ true → h.params ≡ []
    → read_header (header_line h)
    ≡ do
      header_name (trim h.name)
      accepted (record { name = trim h.name; value = h.value; params = [] })
unfolding texts ◌>>=◌
read_header_plain h v e =
    let w = header_parts h v in
    read_header_line_lem h v ∙ rw (e, read_value_lem h.value w.rest.valued w.rest.value_utf8) refl

pub read_header_no_params : (h : Header) → valid_header h ≡ true → (k : Header) → read_header (header_line h) ≡ accepted k → k.params ≡ []
read_header_no_params h v k e =
    let made : Bytes → Header = λ x. record { name = trim h.name; value = x; params = [] } in
    let rest = then_accepted (header_name (trim h.name)) (◌>>=◌ (read_value (behind_colon h)) (λ x. accepted (made x))) k (sym (read_header_line_lem h v) ∙ e) in
    let value = bind_accepted (read_value (behind_colon h)) (λ x. accepted (made x)) k rest.0 in
    ap (λ (q : Header). q.params) (sym (accepted_same (made value.0) k value.2))

-- a content line with a colon
content_cut : (n v : Bytes) (st : Stores) (m : Message) → has colon n ≡ false
    → read_content_line st (n ++ (colon ∷ (space ∷ v))) m ≡ read_named (trim n) (trim v) st m
unfolding read_content_line
content_cut n v st m c =
    rw (has_at colon n (space ∷ v), up_to_at colon n (space ∷ v) c, past_at colon n (space ∷ v) c, trim_space v) refl

pub read_content_line_lem : (e : Entry) (st : Stores) (m : Message) → valid_content e ≡ true
    → read_content_line st (content_line e) m ≡ read_named (trim e.name) (trim e.value) st m
unfolding content_line
read_content_line_lem e st m v = content_cut e.name e.value st m (name_colon e.name (content_parts e v).named)

type_named : (v : Bytes) (st : Stores) (m : Message) → read_named (trim (ascii "Content-type")) v st m ≡ read_type v m
unfolding read_named same_letters lower trim_by chars chars_from trail_in matched drop_front drop_back is_white well_formed fits code_point any texts
type_named v st m = refl

pub read_type_line : (t : Bytes) (st : Stores) (m : Message) → read_content_line st (type_line t) m ≡ read_type (trim t) m
unfolding type_line any
read_type_line t st m = content_cut (ascii "Content-type") t st m refl ∙ type_named (trim t) st m
