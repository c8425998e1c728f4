-- The text T of a message within limits and validators: its lines are not empty and have no control byte, so its sections and their
-- lines are what was written, whatever the ends and parameters; T is UTF-8; and reading T is reading those lines. Assumes nothing.
use mathlib.Core.Path.{◌≡◌, refl, sym, ap, ◌∙◌}
use mathlib.Core.Bool.{Bool, true, false, not, false≢true}
use mathlib.Core.List.{List, [], ◌∷◌, ◌++◌, map, append_assoc}
use lib.Dec.{leb, ltb}
use lib.ListN.{length}
use Rattle.format.specs.Bytes.{is_empty, Bytes, ascii, cr, lf, crlf_text, crlf_crlf_text, all, any, texts, begins, occurs, has, lower, pieces, split, join}
use Rattle.format.specs.Characters.{is_ascii_control, is_utf8, replaced}
use Rattle.format.specs.Escaping.{value_text}
use Rattle.format.specs.Limits.{max_text}
use Rattle.format.specs.Refusals.{accepted, Out, text_too_long, no_message_cpim, not_utf8, at_most, refuse_if, passes, ◌>>◌, ◌>>=◌}
use Rattle.format.specs.Validators.{reserved_in_param_name, reserved_in_param_value, utf8}
use Rattle.format.specs.Message.{Entry, Header, Message, need, valid_param, valid_header, valid_content, valid_type, valid}
use Rattle.format.specs.Calls.{Stores, room, body_set}
use Rattle.format.specs.Writing.{param_text, header_line, content_line, type_line, first_line, ended, write}
use Rattle.format.specs.Reading.{each, separator, sections, line_end, lines, says_cpim, body_of, blank, read_content_line, read_header_line, Parts, parts_of, text_parts, read_parts, read_with}
use Rattle.format.proofs.Lists.{and_intro, or_false_left, all_append, all_head, all_tail, all_cons, all_map, all_texts}
use Rattle.format.proofs.Characters.Chars.{utf8_append, utf8_ascii_text, utf8_texts}
use Rattle.format.proofs.Characters.Replaced.{replaced_utf8}
use Rattle.format.proofs.Splitting.Split.{join_split, split_line, occurs_at}
use Rattle.format.proofs.Splitting.Lines.{line, section_cut, lines_many, lines_one, join_block}
use Rattle.format.proofs.Escaping.ValueText.{value_utf8, value_printable}
use Rattle.format.proofs.Steps.{then_bind, then_passed, refuse_unless_passed}
use Rattle.format.proofs.Messages.Checked.{name_checked, type_checked, content_checked, param_name_checked, param_value_checked, none_all, printable, all_printable}
use Rattle.format.proofs.Messages.Parts.{type_whole, param_parts, header_parts, content_parts, message_parts, type_parts}

-- Lines.

-- a text that is not empty in front of another, all bytes 32 or more
line_append : (s t : Bytes) → is_empty s ≡ false → all (leb 32) s ≡ true → all (leb 32) t ≡ true → line (s ++ t) ≡ true
unfolding line is_empty
line_append [] t e h k = absurd (false≢true (sym e))
line_append (b ∷ s) t e h k = all_append (leb 32) (b ∷ s) t ∙ and_intro (all (leb 32) (b ∷ s)) (all (leb 32) t) h k

both_high : (s t : Bytes) → all (leb 32) s ≡ true → all (leb 32) t ≡ true → all (leb 32) (s ++ t) ≡ true
both_high s t h k = all_append (leb 32) s t ∙ and_intro (all (leb 32) s) (all (leb 32) t) h k

param_high : (e : Entry) → valid_param e ≡ true → all (leb 32) (param_text e) ≡ true
unfolding param_text all reserved_in_param_name reserved_in_param_value
param_high e v =
    let w = param_parts e v in
    let n = none_all reserved_in_param_name (leb 32) (λ b h. printable b (or_false_left (is_ascii_control b) (has b (ascii ";=\\\"")) h)) e.name (param_name_checked e.name w.named) in
    let x = none_all reserved_in_param_value (leb 32) (λ b h. printable b (or_false_left (is_ascii_control b) (has b (ascii ";\\\"")) h)) e.value (param_value_checked e.value w.valued) in
    both_high (ascii ";") (e.name ++ (ascii "=" ++ e.value)) refl (both_high e.name (ascii "=" ++ e.value) n (both_high (ascii "=") e.value refl x))

pub header_line_is : (h : Header) → valid_header h ≡ true → line (header_line h) ≡ true
unfolding header_line all
header_line_is h v =
    let w = header_parts h v in
    let n = name_checked h.name w.named in
    let value = ascii " " ++ value_text h.value in
    let params = texts param_text h.params in
    line_append h.name (ascii ":" ++ (params ++ value)) n.filled (all_printable h.name n.clear)
    (both_high (ascii ":") (params ++ value) refl
    (both_high params value
    (all_texts (leb 32) param_text h.params (all_map valid_param (λ e. all (leb 32) (param_text e)) param_high h.params w.rest.params.each))
    (both_high (ascii " ") (value_text h.value) refl (value_printable h.value w.rest.value_utf8))))

pub content_line_is : (e : Entry) → valid_content e ≡ true → line (content_line e) ≡ true
unfolding content_line all
content_line_is e v =
    let w = content_parts e v in
    let n = name_checked e.name w.named in
    let c = content_checked e.value w.valued in
    line_append e.name (ascii ": " ++ e.value) n.filled (all_printable e.name n.clear)
    (both_high (ascii ": ") e.value refl (all_printable e.value c.clear))

pub type_line_is : (t : Bytes) → valid_type t ≡ true → line (type_line t) ≡ true
unfolding type_line all is_empty
type_line_is t v = line_append (ascii "Content-type: ") t refl refl (all_printable t (type_checked t (type_parts t v).passed).clear)

all_mapped : {A B : Type 0} (f : A → B) (p : B → Bool) (xs : List A) → all (λ x. p (f x)) xs ≡ true → all p (map f xs) ≡ true
unfolding all
all_mapped f p [] h = refl
all_mapped f p (x ∷ xs) h = all_cons p (f x) (map f xs) (all_head (λ x. p (f x)) x xs h) (all_mapped f p xs (all_tail (λ x. p (f x)) x xs h))

pub header_lines_are : (hs : List Header) → all valid_header hs ≡ true → all line (map header_line hs) ≡ true
header_lines_are hs v = all_mapped header_line line hs (all_map valid_header (λ h. line (header_line h)) header_line_is hs v)

pub content_lines_are : (es : List Entry) → all valid_content es ≡ true → all line (map content_line es) ≡ true
content_lines_are es v = all_mapped content_line line es (all_map valid_content (λ e. line (content_line e)) content_line_is es v)

-- Sections.

texts_map : {A : Type 0} (f : A → Bytes) (g : Bytes → Bytes) (xs : List A) → texts (λ x. g (f x)) xs ≡ texts g (map f xs)
unfolding texts
texts_map f g [] = refl
texts_map f g (x ∷ xs) = rw (texts_map f g xs) refl

-- texts each with CRLF behind it, then an empty line, by blocks
blocked : {A : Type 0} (f : A → Bytes) (x : A) (xs : List A) (t : Bytes)
    → texts (λ y. ended (f y)) (x ∷ xs) ++ (crlf_text ++ t) ≡ join crlf_text (map f (x ∷ xs)) ++ (crlf_crlf_text ++ t)
blocked f x xs t = rw (texts_map f ended (x ∷ xs)) (join_block (map f xs) (f x) t)

contents_block : (l : Bytes) (es : List Entry) (t : Bytes)
    → ended l ++ (texts (λ e. ended (content_line e)) es ++ (crlf_text ++ t)) ≡ join crlf_text (l ∷ map content_line es) ++ (crlf_crlf_text ++ t)
unfolding texts
contents_block l es t =
    rw (texts_map content_line ended es) (sym (append_assoc (ended l) (texts ended (map content_line es)) (crlf_text ++ t)) ∙ join_block (map content_line es) l t)

-- T of a message with a header, by its blocks of lines
pub write_blocks : (m : Message) (h : Header) (hs : List Header) → m.headers ≡ h ∷ hs
    → write m
    ≡ first_line
    ++ (crlf_crlf_text
    ++ (join crlf_text (map header_line (h ∷ hs)) ++ (crlf_crlf_text ++ (join crlf_text (type_line m.type ∷ map content_line m.contents) ++ (crlf_crlf_text ++ replaced m.body)))))
unfolding write
write_blocks m h hs e =
    ap (λ (r : Bytes). first_line ++ (crlf_crlf_text ++ r))
    (rw (e, contents_block (type_line m.type) m.contents (replaced m.body))
    (blocked header_line h hs (join crlf_text (type_line m.type ∷ map content_line m.contents) ++ (crlf_crlf_text ++ replaced m.body))))

-- the sections of a text with three blocks of lines in front
cut_sections : (a l k : Bytes) (ls ks : List Bytes) (b : Bytes) → has cr a ≡ false → all line (l ∷ ls) ≡ true → all line (k ∷ ks) ≡ true
    → sections (a ++ (crlf_crlf_text ++ (join crlf_text (l ∷ ls) ++ (crlf_crlf_text ++ (join crlf_text (k ∷ ks) ++ (crlf_crlf_text ++ b))))))
    ≡ a ∷ join crlf_text (l ∷ ls) ∷ join crlf_text (k ∷ ks) ∷ pieces (split crlf_crlf_text b)
unfolding sections separator
cut_sections a l k ls ks b h i j =
    let u = join crlf_text (k ∷ ks) ++ (crlf_crlf_text ++ b) in
    let t = join crlf_text (l ∷ ls) ++ (crlf_crlf_text ++ u) in
    rw (occurs_at cr (lf ∷ crlf_text) a t, split_line cr (lf ∷ crlf_text) a t h, section_cut ls l u i, section_cut ks k b j) refl

pub write_sections : (m : Message) (h : Header) (hs : List Header) → valid m ≡ true → m.headers ≡ h ∷ hs
    → sections (write m)
    ≡ first_line
    ∷ join crlf_text (map header_line (h ∷ hs))
    ∷ join crlf_text (type_line m.type ∷ map content_line m.contents)
    ∷ pieces (split crlf_crlf_text (replaced m.body))
unfolding any
write_sections m h hs v e =
    let w = message_parts m v in
    ap sections (write_blocks m h hs e)
    ∙ cut_sections first_line (header_line h) (type_line m.type) (map header_line hs) (map content_line m.contents) (replaced m.body) refl
    (header_lines_are (h ∷ hs) (sym (ap (all valid_header) e) ∙ w.headers.each))
    (all_cons line (type_line m.type) (map content_line m.contents) (type_line_is m.type (type_whole m.type w.type)) (content_lines_are m.contents w.contents.each))

pub block_lines : (l : Bytes) (ls : List Bytes) → all line (l ∷ ls) ≡ true → lines (join crlf_text (l ∷ ls)) ≡ l ∷ ls
unfolding lines line_end
block_lines l [] h = let k = lines_one l (all_head line l [] h) in rw k.0 k.1
block_lines l (m ∷ ls) h = let k = lines_many l m ls h in rw k.1 k.0

pub body_joined : (b : Bytes) → body_of (pieces (split crlf_crlf_text b)) ≡ b
unfolding body_of
body_joined b = join_split cr (lf ∷ crlf_text) b

-- UTF-8.

plain_utf8 : (s t : Bytes) → all (λ b. ltb b 128) s ≡ true → is_utf8 t ≡ true → is_utf8 (s ++ t) ≡ true
plain_utf8 s t h k = utf8_append s t (utf8_ascii_text s h) ∙ k

both_utf8 : (s t : Bytes) → is_utf8 s ≡ true → is_utf8 t ≡ true → is_utf8 (s ++ t) ≡ true
both_utf8 s t h k = utf8_append s t h ∙ k

param_utf8_lem : (e : Entry) → valid_param e ≡ true → is_utf8 (param_text e) ≡ true
unfolding param_text all
param_utf8_lem e v =
    let w = param_parts e v in
    plain_utf8 (ascii ";") (e.name ++ (ascii "=" ++ e.value)) refl
    (both_utf8 e.name (ascii "=" ++ e.value) w.name_utf8 (plain_utf8 (ascii "=") e.value refl w.value_utf8))

pub header_line_utf8 : (h : Header) → valid_header h ≡ true → is_utf8 (header_line h) ≡ true
unfolding header_line all
header_line_utf8 h v =
    let w = header_parts h v in
    let value = ascii " " ++ value_text h.value in
    let params = texts param_text h.params in
    both_utf8 h.name (ascii ":" ++ (params ++ value)) w.name_utf8
    (plain_utf8 (ascii ":") (params ++ value) refl
    (both_utf8 params value
    (utf8_texts param_text h.params (all_map valid_param (λ e. is_utf8 (param_text e)) param_utf8_lem h.params w.rest.params.each))
    (plain_utf8 (ascii " ") (value_text h.value) refl (value_utf8 h.value w.rest.value_utf8))))

pub content_line_utf8 : (e : Entry) → valid_content e ≡ true → is_utf8 (content_line e) ≡ true
unfolding content_line all
content_line_utf8 e v =
    let w = content_parts e v in
    both_utf8 e.name (ascii ": " ++ e.value) w.name_utf8 (plain_utf8 (ascii ": ") e.value refl w.value_utf8)

pub type_line_utf8 : (t : Bytes) → valid_type t ≡ true → is_utf8 (type_line t) ≡ true
unfolding type_line all
type_line_utf8 t v = plain_utf8 (ascii "Content-type: ") t refl (type_parts t v).utf8

ended_utf8 : (l : Bytes) → is_utf8 l ≡ true → is_utf8 (ended l) ≡ true
unfolding all
ended_utf8 l h = both_utf8 l crlf_text h (utf8_ascii_text crlf_text refl)

pub write_utf8 : (m : Message) → valid m ≡ true → is_utf8 (write m) ≡ true
unfolding write all
write_utf8 m v =
    let w = message_parts m v in
    let body = crlf_text ++ replaced m.body in
    let contents = texts (λ e. ended (content_line e)) m.contents in
    let type = ended (type_line m.type) in
    let headers = texts (λ h. ended (header_line h)) m.headers in
    plain_utf8 (ended first_line) (crlf_text ++ (headers ++ (crlf_text ++ (type ++ (contents ++ body))))) refl
    (plain_utf8 crlf_text (headers ++ (crlf_text ++ (type ++ (contents ++ body)))) refl
    (both_utf8 headers (crlf_text ++ (type ++ (contents ++ body)))
    (utf8_texts (λ h. ended (header_line h)) m.headers
    (all_map valid_header (λ h. is_utf8 (ended (header_line h))) (λ h k. ended_utf8 (header_line h) (header_line_utf8 h k)) m.headers w.headers.each))
    (plain_utf8 crlf_text (type ++ (contents ++ body)) refl
    (both_utf8 type (contents ++ body) (ended_utf8 (type_line m.type) (type_line_utf8 m.type (type_whole m.type w.type)))
    (both_utf8 contents body
    (utf8_texts (λ e. ended (content_line e)) m.contents
    (all_map valid_content (λ e. is_utf8 (ended (content_line e))) (λ e k. ended_utf8 (content_line e) (content_line_utf8 e k)) m.contents w.contents.each))
    (plain_utf8 crlf_text (replaced m.body) refl (replaced_utf8 m.body)))))))

-- Reading T.

pub first_line_says : says_cpim first_line ≡ true
unfolding says_cpim occurs begins lower
first_line_says = refl

text_passes : (m : Message) → valid m ≡ true → passes (utf8 (write m)) ≡ true
unfolding utf8
text_passes m v = refuse_unless_passed (is_utf8 (write m)) not_utf8 (write_utf8 m v)

-- the parts of T
abbrev written_parts : Message → Parts
written_parts m =
    record {
      mime = first_line;
      headers = join crlf_text (map header_line m.headers);
      contents = join crlf_text (type_line m.type ∷ map content_line m.contents);
      body = replaced m.body;
    }

write_parts : (m : Message) (h : Header) (hs : List Header) → valid m ≡ true → m.headers ≡ h ∷ hs
    → text_parts (write m) ≡ ◌>>◌ (at_most max_text text_too_long (length (write m))) (accepted (written_parts m))
unfolding text_parts parts_of
write_parts m h hs v e =
    ap (λ (x : Out Parts). ◌>>◌ (at_most max_text text_too_long (length (write m))) x)
    (then_passed (utf8 (write m)) (parts_of (sections (write m))) (text_passes m v)
    ∙ rw (write_sections m h hs v e, body_joined (replaced m.body), e) refl)

-- the parts of blocks of lines
read_blocks : (reader : Bytes → Out Header) (l k : Bytes) (ls ks : List Bytes) (b : Bytes) (st : Stores) → all line (l ∷ ls) ≡ true → all line (k ∷ ks) ≡ true
    → read_parts reader (record { mime = first_line; headers = join crlf_text (l ∷ ls); contents = join crlf_text (k ∷ ks); body = b }) st
    ≡ do
      room st.head (need blank)
      m ← each (read_header_line reader st) (l ∷ ls) blank
      n ← each (read_content_line st) (k ∷ ks) m
      body_set b st n
unfolding read_parts
read_blocks reader l k ls ks b st h i =
    rw (
      then_passed (refuse_if (not (says_cpim first_line)) no_message_cpim) _ (refuse_unless_passed (says_cpim first_line) no_message_cpim first_line_says),
      block_lines l ls h,
      block_lines k ks i,
    ) refl

-- Reading T, with any reader of a header line, is reading its lines and its body.
pub read_written : (reader : Bytes → Out Header) (m : Message) (h : Header) (hs : List Header) (st : Stores) → valid m ≡ true → m.headers ≡ h ∷ hs
    → read_with reader (write m) st
    ≡ do
      at_most max_text text_too_long (length (write m))
      room st.head (need blank)
      a ← each (read_header_line reader st) (map header_line (h ∷ hs)) blank
      b ← each (read_content_line st) (type_line m.type ∷ map content_line m.contents) a
      body_set (replaced m.body) st b
unfolding read_with
read_written reader m h hs st v e =
    let w = message_parts m v in
    rw (write_parts m h hs v e)
    (then_bind (at_most max_text text_too_long (length (write m))) (written_parts m) (λ p. read_parts reader p st)
    ∙ ap (λ (x : Out Message). ◌>>◌ (at_most max_text text_too_long (length (write m))) x)
    (rw e
    (read_blocks reader (header_line h) (type_line m.type) (map header_line hs) (map content_line m.contents) (replaced m.body) st
    (header_lines_are (h ∷ hs) (sym (ap (all valid_header) e) ∙ w.headers.each))
    (all_cons line (type_line m.type) (map content_line m.contents) (type_line_is m.type (type_whole m.type w.type)) (content_lines_are m.contents w.contents.each)))))
